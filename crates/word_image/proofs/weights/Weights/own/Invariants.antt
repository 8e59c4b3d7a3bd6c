use Rattle.std.proofs.Common.{◌≡◌, map}
use Rattle.word_image.proofs.Common.{range_with_len}
use Rattle.word_image.specs.Storage.{in_row}
use Rattle.word_image.proofs.weights.Weights.own.Given as goal

-- the letters so far weigh their values
abbrev pub invariant-loop-letter : goal.invariant-loop-letter
invariant-loop-letter l = l.numbers ≡ in_row 16 (map (λ b. b) (range_with_len 0 l.letter))
