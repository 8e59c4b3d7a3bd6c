use Rattle.image_minimal.proofs.Common.{ℕ, ◌^◌, ◌<◌, subst, arith, one_shl, node_count, IsSetTo-skip, IsSetTo-take, IsSetTo-all, IsLedInto, ◌≡◌, ◌≢◌, ◌-◌, bit_and, IsBitSet, ⊎_elim, and_le_l, LocalRule, IsRule, IsBitSet-some, IsBitSet-zero, IsBitSet-decide, IsEnds, IsBitSet-minus, Right}
use Rattle.image_minimal.proofs.laws.Unread.{edge_below}
use Rattle.image_minimal.proofs.closures.back.Goals as goal
use Rattle.image_minimal.proofs.closures.back.Goals.{then-ends-set-eq0, else-ends-set-eq0}

-- where the set lacks none of the ends, all edges lead into it
all_led : {r : LocalRule} {ends set : ℕ} → IsRule r → (u a : ℕ) → set < 2 ^ 16 → IsEnds Right r u a ends → bit_and ends (65535 - set) ≡ 0
    → IsLedInto r set a u
all_led {r} {ends} {set} rule u a small h none v edge =
    let node : v < node_count r = edge_below rule a u v edge in
    ⊎_elim
    (λ some. some)
    (λ missing. absurd (IsBitSet-zero v (subst (λ n. IsBitSet n v) none ((IsBitSet-minus ends set v small (omega (arith, node, rule.shape.most_nodes))).1 ((h.nodes v node).1 edge, missing)))))
    (IsBitSet-decide set v)

-- where the set lacks one of the ends, not all edges lead into it
not_led : {r : LocalRule} {ends set : ℕ} → IsRule r → (u a : ℕ) → set < 2 ^ 16 → IsEnds Right r u a ends → bit_and ends (65535 - set) ≢ 0
    → ¬ IsLedInto r set a u
not_led {r} {ends} {set} rule u a small h some led =
    let (v, node, bit) = IsBitSet-some (node_count r) (bit_and ends (65535 - set)) (omega (arith, and_le_l ends (65535 - set), h.within)) some in
    let (there, missing) = (IsBitSet-minus ends set v small (omega (arith, node, rule.shape.most_nodes))).0 bit in
    missing (led v ((h.nodes v node).0 there))

pub loop-u-preserved : goal.loop-u-preserved
loop-u-preserved c =
    let r = c.args.graph.now in
    let rule = c.nodes-u-end.ensures.rule in
    let u = c.loop-u.u in
    let Led : ℕ → Type 0 = IsLedInto r c.args.set c.args.a in
    let node : u < node_count r = omega arith in
    let fits : c.args.set < 2 ^ 16 = omega arith in
    elim c.if-ends-set-eq0.branch [
      | then-ends-set-eq0 w ↦
          rw w.before-is
          (IsSetTo-take Led c.loop-u.invariant node (one_shl u 16 (omega (arith, rule.shape.most_nodes))) (all_led rule u c.args.a fits c.ends.ensures w.if-ends-set-eq0.true))
      | else-ends-set-eq0 w ↦
          rw w.before-is (IsSetTo-skip Led c.loop-u.invariant (not_led rule u c.args.a fits c.ends.ensures w.if-ends-set-eq0.false))
    ]

pub returns : goal.returns
returns c = record { of = IsSetTo-all (IsLedInto c.args.graph.now c.args.set c.args.a) (omega arith) c.loop-u.invariant }
