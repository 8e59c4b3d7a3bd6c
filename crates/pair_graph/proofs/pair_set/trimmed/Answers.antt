use Rattle.std.proofs.Common.{arith}
use Rattle.pair_graph.proofs.PairSteps.{AreNodesKept-next}
use Rattle.pair_graph.proofs.pair_set.trimmed.Goals as goal

pub loop-u-preserved : goal.loop-u-preserved
loop-u-preserved c = AreNodesKept-next c.loop-u.invariant c.from-in-loop-u.result c.from.result c.going_on.result c.from-in-loop-u.ensures c.from.ensures (omega arith) c.going_on.ensures
