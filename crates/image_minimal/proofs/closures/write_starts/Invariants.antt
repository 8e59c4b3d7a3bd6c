use Rattle.image_minimal.proofs.laws.ClosureTables.{AreStarts}
use Rattle.image_minimal.proofs.closures.write_starts.Given as goal

-- the first unread sets have themselves
abbrev pub invariant-loop-place : goal.invariant-loop-place
invariant-loop-place l = AreStarts l.graph l.unread.sets l.place l.closures
