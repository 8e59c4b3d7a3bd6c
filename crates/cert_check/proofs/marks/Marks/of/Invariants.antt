use Rattle.std.proofs.Common.{take}
use Rattle.cert_check.specs.Rows.{AreMarked}
use Rattle.cert_check.proofs.marks.Marks.of.Given as goal

-- the sets so far are marked
abbrev pub invariant-loop-set : goal.invariant-loop-set
invariant-loop-set l = AreMarked l.marks.rows (take l.set-index l.sets)
