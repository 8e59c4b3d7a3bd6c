use Rattle.std.proofs.Common.{sym, ◌∙◌}
use Rattle.word_image.proofs.Common.{false≢true}
use Rattle.word_image.specs.declared.side.Side.TheVariants.{Right, Left}
use Rattle.garden_laws.proofs.Preinjective.{IsSurjective-injective}
use Rattle.rule_lists.proofs.FixedSteps.{IsInjective-none}
use Rattle.rule_lists.proofs.cuts.rules_out_injective.Goals as goal

pub returns-then-rules_out_surjective : goal.returns-then-rules_out_surjective
returns-then-rules_out_surjective c told s h injective = c.rules_out_surjective.ensures c.if-rules_out_surjective.true s h (IsSurjective-injective h.rule injective)

pub returns : goal.returns
returns c told s h =
    IsInjective-none c.args.shape.now s c.args.letters.now c.pair-pair.result h (λ one. false≢true (sym c.if-has_one_node.false ∙ c.has_one_node.ensures.1 one)) (c.is_cycle.ensures told s h Left) (c.is_cycle.ensures told s h Right)
