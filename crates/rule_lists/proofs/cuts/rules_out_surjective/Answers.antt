use Rattle.std.proofs.Common.{refl}
use Rattle.garden_laws.specs.ReachedPairs.{IsReached}
use Rattle.rule_lists.proofs.RuledOut.{RulesOutSurjective-reached}
use Rattle.rule_lists.proofs.cuts.rules_out_surjective.Goals as goal

pub returns : goal.returns
returns c told =
    RulesOutSurjective-reached c.args.shape.now c.args.letters.now c.pair-pair.result (λ s h. let (q, first, before) = c.comes_after_first.ensures told s h in before.reached refl (IsReached.First q first)) (c.has_one_node.ensures.0 c.if-not-has_one_node.false)
