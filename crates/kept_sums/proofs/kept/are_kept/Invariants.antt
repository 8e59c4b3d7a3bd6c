use Rattle.std.proofs.Common.{◌≢◌, ℕ, ◌<◌, pos}
use Rattle.kept_sums.specs.Sums.{IsKept}
use Rattle.kept_sums.specs.Spans.{entry}
use Rattle.kept_sums.proofs.kept.are_kept.Given as goal

-- the rule keeps the sums of the first rows
abbrev pub invariant-loop-place : goal.invariant-loop-place
invariant-loop-place l = (i : ℕ) → i < l.place → entry l.rows i i ≢ pos 0 → IsKept l.range (entry l.rows i) l.rule
