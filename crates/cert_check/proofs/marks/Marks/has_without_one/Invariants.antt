use Rattle.std.proofs.Common.{ℕ, ◌<◌}
use Rattle.cert_check.specs.Rows.{IsMarked, without}
use Rattle.cert_check.proofs.marks.Marks.has_without_one.Given as goal

-- the set isn't marked without any one of the nodes so far
abbrev pub invariant-loop-node : goal.invariant-loop-node
invariant-loop-node l = (n : ℕ) → n < l.node → ¬ IsMarked l.self.rows (without l.set n)
