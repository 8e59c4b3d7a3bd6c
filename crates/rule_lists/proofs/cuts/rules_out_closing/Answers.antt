use Rattle.std.proofs.Common.{arith}
use Rattle.rule_lists.proofs.FixedSteps.{PairGoes-equal}
use Rattle.rule_lists.proofs.FixedCycles.{IsClosing-after_first}
use Rattle.rule_lists.proofs.cuts.rules_out_closing.Goals as goal

pub returns-then-has_one_node : goal.returns-then-has_one_node
returns-then-has_one_node c told s h =
    let (q, first, before) = c.comes_after_first.ensures c.if-not-comes_after_first.false s h in
    IsClosing-after_first c.args.side c.pair-pair.result q h.rule first before (PairGoes-equal c.args.side c.args.shape.now s c.args.letters.now c.pairs.ensures.rule h c.pair-pair.result (omega (arith, c.if-pair-pairs.false, c.pairs.ensures.count)) (c.has_one_node.ensures.0 c.if-has_one_node.true))

pub returns : goal.returns
returns c told s h =
    grind (arith, IsClosing-after_first)
