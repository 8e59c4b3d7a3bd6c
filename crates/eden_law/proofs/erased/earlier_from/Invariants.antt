use Rattle.std.proofs.Common.{◌+◌, ◌*◌}
use Rattle.word_image.proofs.Common.{node_count}
use Rattle.eden_law.specs.Erasures.{IsErasure}
use Rattle.tail_laws.proofs.Common.{IsFirstFound}
use Rattle.eden_law.proofs.erased.earlier_from.Given as goal

abbrev pub invariant-loop-to : goal.invariant-loop-to
invariant-loop-to l = IsFirstFound (IsErasure l.pairs) (l.node * node_count l.pairs + l.to) l.first
