use Rattle.std.proofs.Common.{ℕ, ◌<◌}
use Rattle.tail_preimage.specs.Relations.{SomeRounds, Meets}
use Rattle.word_image.proofs.Common.{HasBit}
use Rattle.tail_preimage.proofs.periods.least_sum.Given as goal

-- no lesser sum makes rounds
abbrev pub invariant-loop-sum : goal.invariant-loop-sum
invariant-loop-sum l = (i : ℕ) → i < l.sum → ¬ Meets l.graph (SomeRounds (HasBit l.periods.period) i) l.set
