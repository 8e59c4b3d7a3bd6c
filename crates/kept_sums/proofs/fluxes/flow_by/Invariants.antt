use Rattle.std.proofs.Common.{◌≡◌, ℕ, ◌/◌, ◌%◌, ◌<◌, ◌-ℤ◌}
use Rattle.kept_sums.specs.Rows.{at}
use Rattle.kept_sums.proofs.fluxes.flow_by.Given as goal

-- the first windows add the difference of the numbers of their ends
abbrev pub invariant-loop-window : goal.invariant-loop-window
invariant-loop-window l = (v : ℕ) → v < l.window → at l.gains v ≡ at l.flux (v / l.k) -ℤ at l.flux (v % l.words)
