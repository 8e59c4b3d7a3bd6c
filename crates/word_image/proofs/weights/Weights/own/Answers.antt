use Rattle.std.proofs.Common.{◌≡◌, ℕ, ◌-◌, List, length, take, drop, map, map-id, replicate, ap, ◌∙◌, arith}
use Rattle.word_image.proofs.Common.{range_with_len, length-range_with_len}
use Rattle.word_image.specs.Storage.{in_row}
use Rattle.word_image.specs.Weights.{own_weights}
use Rattle.word_image.proofs.Storage.{take-in_row, drop-in_row, in_row-more}
use Rattle.word_image.proofs.weights.Weights.own.Goals as goal

pub loop-letter-preserved : goal.loop-letter-preserved
loop-letter-preserved c = grind (arith, in_row-more)

-- in the end the own weights of all letters stand
all_letters : (k n : ℕ) (numbers : List ℕ) → n ≡ k → numbers ≡ in_row 16 (map (λ b. b) (range_with_len 0 n))
    → (take k numbers ≡ own_weights k) × (drop k numbers ≡ replicate (16 - k) 0)
all_letters k n numbers all same = grind (arith, map-id, length-range_with_len, take-in_row, drop-in_row)

pub invariant_of-result : goal.invariant_of-result
invariant_of-result c =
    let parts = all_letters c.args.k c.loop-letter.letter c.loop-letter.numbers (omega arith) c.loop-letter.invariant in
    (c.requires.least, c.requires.most, ap length parts.0 ∙ length-range_with_len 0 c.args.k, parts.1)

pub returns-clause-weights : goal.returns-clause-weights
returns-clause-weights c = (all_letters c.args.k c.loop-letter.letter c.loop-letter.numbers (omega arith) c.loop-letter.invariant).0
