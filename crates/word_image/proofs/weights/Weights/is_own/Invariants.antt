use Rattle.std.proofs.Common.{◌≡◌, ℕ, ◌<◌, slice_index}
use Rattle.word_image.proofs.weights.Weights.is_own.Given as goal

-- the letters so far weigh their values
abbrev pub invariant-loop-letter : goal.invariant-loop-letter
invariant-loop-letter l = (a : ℕ) → a < l.letter → slice_index l.self a ≡ a
