use Rattle.std.proofs.Common.{below_more}
use Rattle.cert_conditions.proofs.Common.{IsWindowPair}
use Rattle.cert_check.proofs.windows.first_not_told.Goals as goal

pub loop-pair-preserved : goal.loop-pair-preserved
loop-pair-preserved c =
    below_more (IsWindowPair c.args.rule.now c.args.forward.now c.args.backward.now c.args.n c.args.c) c.loop-pair.pair c.loop-pair.invariant (c.is_told.ensures.0 c.if-not-is_told.false)
