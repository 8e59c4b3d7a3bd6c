use Rattle.std.proofs.Common.{ℕ, ◌<◌, ◌↔◌}
use Rattle.cert_conditions.proofs.Common.{HasPart}
use Rattle.cert_check.specs.Rows.{IsMarked}
use Rattle.cert_check.proofs.marks.Marks.supersets.Given as goal

-- the sets so far are marked that contain a listed one, and no others
abbrev pub invariant-loop-number : goal.invariant-loop-number
invariant-loop-number l = (s : ℕ) → IsMarked l.above.rows s ↔ ((s < l.number) × HasPart l.sets s)
