use Rattle.std.proofs.Common.{arith}
use Rattle.tail_preimage.proofs.Rows.{AreRowsFilled-more}
use Rattle.tail_preimage.proofs.relations.joined.Goals as goal

pub loop-u-preserved : goal.loop-u-preserved
loop-u-preserved c = AreRowsFilled-more c.from-in-loop-u.result c.nodes-u-end.ensures.rule (omega arith) c.from-in-loop-u.ensures c.loop-u.invariant (rw c.from.ensures at c.union_of_rows.ensures)
