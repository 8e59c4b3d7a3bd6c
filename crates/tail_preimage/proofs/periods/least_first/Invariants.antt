use Rattle.std.proofs.Common.{ℕ, ◌-◌, ◌<◌}
use Rattle.tail_preimage.specs.Relations.{Rounds, Meets}
use Rattle.word_image.proofs.Common.{HasBit}
use Rattle.tail_preimage.proofs.periods.least_first.Given as goal

-- no lesser number of steps makes rounds
abbrev pub invariant-loop-n : goal.invariant-loop-n
invariant-loop-n l = (i : ℕ) → i < l.n → ¬ Meets l.graph (Rounds (HasBit l.periods.period) i (l.sum - i)) l.set
