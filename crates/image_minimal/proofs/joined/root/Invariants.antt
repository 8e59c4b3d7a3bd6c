use Rattle.image_minimal.proofs.Common.{IsOnWay}
use Rattle.image_minimal.proofs.joined.root.Given as goal

-- the number has led so far
abbrev pub invariant-loop-parents : goal.invariant-loop-parents
invariant-loop-parents l = IsOnWay l.initial.parents l.parents l.number l.at

abbrev pub decreases-loop-parents : goal.decreases-loop-parents
decreases-loop-parents l = l.at
