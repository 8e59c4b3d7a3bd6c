-- Numbers and the zeros after them can be told apart, and numbers grow over the zeros.
use Rattle.std.proofs.Common.{◌≡◌, ℕ, ◌+◌, ◌-◌, ◌<◌, List, length, take, drop, set, map, replicate, sym, ap, ◌∙◌, arith}
use Rattle.word_image.proofs.Common.{take-append_seam, drop-append_seam, range_with_len, length-map-range_with_len}
use Rattle.word_image.specs.Storage.{in_row}
use Rattle.word_image.proofs.laws.Lists.{filled_more}

-- the numbers stand at the front
pub take-in_row : (size n : ℕ) (numbers : List ℕ) → length numbers ≡ n → take n (in_row size numbers) ≡ numbers
take-in_row size n numbers long = ap (λ j. take j (in_row size numbers)) (sym long) ∙ take-append_seam numbers (replicate (size - length numbers) 0)

-- behind the numbers stand zeros
pub drop-in_row : (size n : ℕ) (numbers : List ℕ) → length numbers ≡ n → drop n (in_row size numbers) ≡ replicate (size - n) 0
drop-in_row size n numbers long = grind (arith, drop-append_seam)

-- what a function gives at each place grows over the zeros
pub in_row-more : (size : ℕ) (f : ℕ → ℕ) (i y : ℕ) → i < size → y ≡ f i
    → set (in_row size (map f (range_with_len 0 i))) i y ≡ in_row size (map f (range_with_len 0 (i + 1)))
in_row-more size f i y h e = grind (arith, length-map-range_with_len, filled_more)
