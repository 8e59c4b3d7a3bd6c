use Rattle.std.proofs.Common.{arith}
use Rattle.pair_rank.proofs.TrimmedSets.{AreTogether-all, AreTogether-next, AreEndless-stable, AreEndless-all}
use Rattle.pair_rank.proofs.rounds.endless_pairs.Goals as goal

pub loop-n-init : goal.loop-n-init
loop-n-init c = rw c.all-set.ensures.set (AreTogether-all c.args.side c.all-set.ensures.rule)

pub loop-n-preserved : goal.loop-n-preserved
loop-n-preserved c = AreTogether-next c.all-set.ensures.rule c.loop-n.invariant c.trim-after.ensures

pub returns-then-same-clause-endless : goal.returns-then-same-clause-endless
returns-then-same-clause-endless c = AreEndless-stable c.all-set.ensures.rule c.loop-n.invariant (rw (c.same.ensures.0 c.if-same.true) at c.trim-after.ensures)

pub returns-clause-endless : goal.returns-clause-endless
returns-clause-endless c = AreEndless-all c.all-set.ensures.rule (omega (arith, c.loop-n-test.false)) c.loop-n.invariant
