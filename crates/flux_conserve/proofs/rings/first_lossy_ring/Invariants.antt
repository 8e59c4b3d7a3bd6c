use Rattle.std.proofs.Common.{ℕ, ◌<◌, slice_index}
use Rattle.flux_conserve.specs.LeastRings.{KeepSumAt}
use Rattle.flux_conserve.proofs.rings.first_lossy_ring.Given as goal

-- the rings of fewer letters keep their sums
abbrev pub invariant-loop-count : goal.invariant-loop-count
invariant-loop-count l = (n : ℕ) → n < l.count → KeepSumAt (slice_index l.weights) l.rule n
