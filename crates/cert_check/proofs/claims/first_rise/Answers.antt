use Rattle.std.proofs.Common.{below_more}
use Rattle.cert_conditions.proofs.Common.{Falls}
use Rattle.cert_check.proofs.claims.first_rise.Goals as goal

pub loop-pair-preserved : goal.loop-pair-preserved
loop-pair-preserved c = below_more (Falls c.args.side c.args.rule.now c.args.claims.now) c.loop-pair.pair c.loop-pair.invariant (c.falls.ensures.0 c.if-not-falls.false)
