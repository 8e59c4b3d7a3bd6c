use Rattle.std.proofs.Common.{below_more, arith}
use Rattle.cert_conditions.proofs.Common.{FirstIsListed}
use Rattle.cert_check.proofs.pairs.first_missing.Goals as goal
use Rattle.cert_check.proofs.pairs.first_missing.Goals.{else-is_first-via-then-is_first+else-not-has, else-is_first-via-else-is_first}

pub loop-pair-preserved : goal.loop-pair-preserved
loop-pair-preserved c =
    below_more (FirstIsListed c.args.rule.now c.args.pairs.now) c.loop-pair.pair c.loop-pair.invariant
    (grind arith)
