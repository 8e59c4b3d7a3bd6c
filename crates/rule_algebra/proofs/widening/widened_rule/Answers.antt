use Rattle.std.proofs.Common.{◌≡◌, ℕ, ◌-◌, ◌/◌, ◌^◌, ◌<◌, ◌≤◌, ℤ, slice_index, take, w8, to_z, of_z, refl, ap, ◌∙◌, arith, rules, pow-add}
use Rattle.word_image.proofs.Common.{pow-le-pow_right, one-le-pow, div_below, LocalRule, IsRule, IsShape, local_map, word_of, IsRuleBy, window_count-le, IsRuleBy-map}
use Rattle.std.proofs.iter.Serving.{serving}
use Rattle.rule_algebra.specs.Tables.{widened}
use Rattle.rule_algebra.proofs.laws.Widening.{IsRule-widened, widened-entry}
use Rattle.rule_algebra.proofs.RuleParts.{power_of}
use Rattle.rule_algebra.proofs.widening.widened_rule.Goals as goal

-- the letters of the windows without their last digits make the widened rule
by_first_digits : {r : LocalRule} {k m d : ℕ} {o : ℤ} {gives : ℕ → ℕ → Type 0} → IsRule r → r.width ≤ m → IsShape r.states m r.offset → k ≡ r.states
    → o ≡ r.offset
    → d ≡ r.states ^ (m - r.width) → ((v a : ℕ) → v < r.states ^ m → gives v a → a ≡ slice_index r.table (v / d))
    → IsRuleBy k m (to_z w8 (of_z w8 o)) gives (widened r m)
by_first_digits {r} {k} {m} rule wide shape states offset ignored given =
    IsRuleBy-map (λ v. local_map r (take r.width (word_of r.states m v))) (IsRule-widened rule m shape) states refl offset refl
    (λ v a l h. given v a l h ∙ ap (λ j. slice_index r.table (v / j)) ignored ∙ widened-entry r m v wide l)

pub pow-ignored-requires : goal.pow-ignored-requires
pow-ignored-requires c = grind (arith, pow-le-pow_right, window_count-le)

pub from_fn-requires-clause-rule : goal.from_fn-requires-clause-rule
from_fn-requires-clause-rule c =
    let ignored = power_of c.args.rule.now.states (c.args.m - c.args.rule.now.width) _ _ _ c.pow-ignored.ensures (c.from.ensures ∙ c.k.ensures.states) (c.from-2.ensures ∙ ap (λ j. c.args.m - j) c.m.ensures.width) in
    (_, by_first_digits c.k.ensures.rule c.requires.wider c.requires.shape c.k-2.ensures.states c.o.ensures.offset ignored (λ v a l h. search rules))

pub from_fn-requires-clause-callable : goal.from_fn-requires-clause-callable
from_fn-requires-clause-callable c = grind (arith, power_of, pow-add, one-le-pow, div_below, serving)

pub returns : goal.returns
returns c =
    let ignored = power_of c.args.rule.now.states (c.args.m - c.args.rule.now.width) _ _ _ c.pow-ignored.ensures (c.from.ensures ∙ c.k.ensures.states) (c.from-2.ensures ∙ ap (λ j. c.args.m - j) c.m.ensures.width) in
    c.from_fn.ensures _ (by_first_digits c.k.ensures.rule c.requires.wider c.requires.shape c.k-2.ensures.states c.o.ensures.offset ignored (λ v a l h. search rules))
