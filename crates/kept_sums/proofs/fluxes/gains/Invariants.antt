use Rattle.std.proofs.Common.{◌≡◌, ℕ, ◌+◌, ◌-◌, ◌^◌, ◌<◌, ◌≤◌, length, pos, unsigned_abs}
use Rattle.word_image.proofs.Common.{word_of}
use Rattle.kept_sums.specs.Rows.{at}
use Rattle.kept_sums.specs.Fluxes.{window_gain}
use Rattle.kept_sums.proofs.fluxes.gains.Given as goal

-- the first windows have their gains, and the others zeros
abbrev pub invariant-loop-window : goal.invariant-loop-window
invariant-loop-window l = record {
  many : length l.gains ≡ 256;
  done : (v : ℕ) → v < l.window
      → (at l.gains v ≡ window_gain l.rule l.range (at l.weights) (word_of l.rule.states (l.rule.width + l.range - 1) v)) × (unsigned_abs (at l.gains v) ≤ 2 ^ 57);
  rest : (v : ℕ) → l.window ≤ v → at l.gains v ≡ pos 0;
}
