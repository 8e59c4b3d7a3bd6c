use Rattle.std.proofs.Common.{◌≡◌, ℕ, None, ℤ, w8, w32, to_z, of_z, refl, sym, ◌∙◌, arith, rules}
use Rattle.std.proofs.lemmas.Int.{to_z-of_z}
use Rattle.word_image.proofs.Common.{err_from_is_err_and, ints, none-some, IsRule, shape_fault, IsShape-shape_fault, shape_fault-IsShape, IsRuleBy-entries}
use Rattle.tail_config.proofs.Common.{WindowMap}
use Rattle.inverse_table.specs.InverseMaps.{map_rule}
use Rattle.inverse_table.specs.MapLimits.{IsWindowMap}
use Rattle.inverse_table.proofs.MapRules.{IsRule-map_rule, shape_fault-limit}
use Rattle.inverse_table.proofs.lent_map.LentMap.as_rule.Goals as goal

-- the offset of a map is passed as it is
passed : {g : WindowMap} {o : ℤ} → IsWindowMap g → o ≡ g.offset → to_z w32 (of_z w32 o) ≡ g.offset
passed {g} {o} h offset = grind (arith, w32, ints, to_z-of_z)

-- the shape that is asked for is that of the map's rule
asked : {g : WindowMap} {k m : ℕ} {o : ℤ} → IsWindowMap g → k ≡ g.states → m ≡ (map_rule g).width → o ≡ g.offset
    → shape_fault k m (to_z w8 (of_z w8 (to_z w32 (of_z w32 o)))) ≡ shape_fault g.states (map_rule g).width g.offset
asked {g} h states width offset = grind (arith, ints, passed, to_z-of_z)

-- where the shape that is asked for has no fault, the rule of the map is a rule
accepted : {g : WindowMap} {k m : ℕ} {o : ℤ} → IsWindowMap g → k ≡ g.states → m ≡ (map_rule g).width → o ≡ g.offset
    → None ≡ shape_fault k m (to_z w8 (of_z w8 (to_z w32 (of_z w32 o)))) → IsRule (map_rule g)
accepted h states width offset none = IsRule-map_rule h (IsShape-shape_fault _ _ _ (sym (asked h states width offset) ∙ sym none))

pub returns-in_err-check_shape-clause-accepted : goal.returns-in_err-check_shape-clause-accepted
returns-in_err-check_shape-clause-accepted c =
    let width : c.max-m.result ≡ (map_rule c.args.self.now).width = omega (arith, c.max-m.ensures, c.n.ensures.width) in (
      λ ok. absurd (grind arith),
      λ rule. absurd (none-some _ (sym (shape_fault-IsShape _ _ _ rule.shape) ∙ sym (asked c.n.ensures.map c.k.ensures.states width c.offset-o.ensures.offset) ∙ sym c.in_err-check_shape.ensures)),
    )

pub returns-in_err-check_shape-clause-fault : goal.returns-in_err-check_shape-clause-fault
returns-in_err-check_shape-clause-fault c =
    let width : c.max-m.result ≡ (map_rule c.args.self.now).width = omega (arith, c.max-m.ensures, c.n.ensures.width) in
    let p = err_from_is_err_and c.from_residual.result c.from_residual.ensures.1 in
    rw (p.1, p.2) (c.in_err-check_shape.ensures ∙ asked c.n.ensures.map c.k.ensures.states width c.offset-o.ensures.offset ∙ shape_fault-limit c.n.ensures.map)

pub from_fn-requires-clause-rule : goal.from_fn-requires-clause-rule
from_fn-requires-clause-rule c =
    let h = c.n.ensures.map in
    let width : c.max-m.result ≡ (map_rule c.args.self.now).width = omega (arith, c.max-m.ensures, c.n.ensures.width) in
    let rule = accepted h c.k.ensures.states width c.offset-o.ensures.offset c.in_ok-check_shape.ensures in
    (_, IsRuleBy-entries rule c.k-2.ensures.states width (passed h c.offset-o.ensures.offset) (λ v a l h. search rules))

pub returns-clause-rule : goal.returns-clause-rule
returns-clause-rule c =
    let h = c.n.ensures.map in
    let width : c.max-m.result ≡ (map_rule c.args.self.now).width = omega (arith, c.max-m.ensures, c.n.ensures.width) in
    let rule = accepted h c.k.ensures.states width c.offset-o.ensures.offset c.in_ok-check_shape.ensures in
    c.from_fn.ensures _ (IsRuleBy-entries rule c.k-2.ensures.states width (passed h c.offset-o.ensures.offset) (λ v a l h. search rules))

pub returns-clause-fault : goal.returns-clause-fault
returns-clause-fault c =
    let width : c.max-m.result ≡ (map_rule c.args.self.now).width = omega (arith, c.max-m.ensures, c.n.ensures.width) in
    c.in_ok-check_shape.ensures ∙ asked c.n.ensures.map c.k.ensures.states width c.offset-o.ensures.offset ∙ shape_fault-limit c.n.ensures.map

pub returns-clause-accepted : goal.returns-clause-accepted
returns-clause-accepted c =
    let width : c.max-m.result ≡ (map_rule c.args.self.now).width = omega (arith, c.max-m.ensures, c.n.ensures.width) in
    (λ _. accepted c.n.ensures.map c.k.ensures.states width c.offset-o.ensures.offset c.in_ok-check_shape.ensures, λ _. refl)
