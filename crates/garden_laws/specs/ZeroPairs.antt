-- The number of words of m + 1 letters with the image 00, for a rule of k states and width m. A surjective rule has k ^
-- (m - 1) such words.
use Rattle.std.specs.Prelude.{ℕ, zero, suc, ◌+◌, ◌*◌, ◌/◌, ◌%◌, List, length, slice_index, Bool, ◌==◌, ◌&&◌}
use Rattle.std.specs.Int.{from_bool}

-- how many numbers below n pass a test
unfoldable pub count_below : (ℕ → Bool) → ℕ → ℕ
count_below p zero = 0
count_below p (suc n) = count_below p n + from_bool (p n)

-- the word of m + 1 letters with this value has the image 00
abbrev pub gives_zeros : ℕ → List ℕ → ℕ → Bool
gives_zeros k table v = (slice_index table (v / k) == 0) && (slice_index table (v % length table) == 0)

-- how many words of m + 1 letters have the image 00
abbrev pub zero_pairs : ℕ → List ℕ → ℕ
zero_pairs k table = count_below (gives_zeros k table) (length table * k)
