use Rattle.std.proofs.Common.{◌≡◌, length}
use Rattle.eden_law.specs.ZeroEdges.{AreZeroEdges}
use Rattle.eden_law.proofs.zeros.zero_edges.Given as goal

-- the numbers of the nodes so far
abbrev pub invariant-loop-node : goal.invariant-loop-node
invariant-loop-node l = record { long : length l.edges ≡ 16; edges : AreZeroEdges l.k l.table l.node l.edges }
