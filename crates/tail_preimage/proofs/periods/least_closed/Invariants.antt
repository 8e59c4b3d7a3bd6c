use Rattle.std.proofs.Common.{ℕ, ◌<◌}
use Rattle.tail_preimage.specs.Relations.{Open, Meets}
use Rattle.word_image.proofs.Common.{HasBit}
use Rattle.tail_preimage.proofs.periods.least_closed.Given as goal

-- each lesser number of steps leads somewhere
abbrev pub invariant-loop-n : goal.invariant-loop-n
invariant-loop-n l = (i : ℕ) → i < l.n → Meets l.graph (Open (HasBit l.periods.period) i) l.set
