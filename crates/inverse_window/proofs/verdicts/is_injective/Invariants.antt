use Rattle.std.proofs.Common.{◌≢◌, ℕ, ◌<◌}
use Rattle.inverse_window.specs.BothWays.{GoOnBothWays}
use Rattle.inverse_window.proofs.verdicts.is_injective.Given as goal

-- with the first nodes no other goes on
abbrev pub invariant-loop-u : goal.invariant-loop-u
invariant-loop-u l = (u v : ℕ) → u < l.u → u ≢ v → ¬ GoOnBothWays l.endless u v
