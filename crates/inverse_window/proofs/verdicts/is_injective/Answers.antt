use Rattle.std.proofs.Common.{◌≢◌, ℕ, refl, sym, ◌∙◌, ap, arith, below_more}
use Rattle.word_image.proofs.Common.{false≢true, node_count}
use Rattle.inverse_window.specs.BothWays.{GoOnBothWays}
use Rattle.inverse_window.proofs.BothWays.{not_injective, injective_where_none}
use Rattle.inverse_window.proofs.verdicts.is_injective.Goals as goal

pub returns-then-has_other-clause-injective : goal.returns-then-has_other-clause-injective
returns-then-has_other-clause-injective c =
    let (v, different, goes) = c.has_other.ensures.0 c.if-has_other.true in
    (λ t. absurd cc, λ injective. absurd (not_injective c.rule.ensures.rule c.loop-u.u v different goes injective))

pub loop-u-preserved : goal.loop-u-preserved
loop-u-preserved c u v less = below_more (λ u. (v : ℕ) → u ≢ v → ¬ GoOnBothWays c.args.endless.now u v) c.loop-u.u
    (λ u less v. c.loop-u.invariant u v less) (λ v different goes. false≢true (sym c.if-has_other.false ∙ c.has_other.ensures.1 (v, different, goes))) u less v

pub returns-clause-injective : goal.returns-clause-injective
returns-clause-injective c = (
  (λ t. injective_where_none c.rule.ensures.rule (λ u v first second.
      c.loop-u.invariant u v (omega (arith, first, c.loop-u-test.false, c.nodes-u-end.ensures.nodes, ap node_count c.rule.ensures.value)))),
  (λ injective. refl),
)
