-- A row that is filled from its start.
use Rattle.std.proofs.Common.{◌≡◌, ℕ, ◌+◌, ◌<◌, List, length, get_or, set, arith}
use Rattle.std.proofs.lemmas.Grind.{common_steps}

-- where the first letters of a row are those of a function, and the next one is written, this one is too
pub filled-more : (f : ℕ → ℕ) (row : List ℕ) (j b : ℕ) → j < length row → ((a : ℕ) → a < j → get_or row a 0 ≡ f a) → b ≡ f j → (a : ℕ) → a < j + 1
    → get_or (set row j b) a 0 ≡ f a
filled-more f row j b within sofar here a l = grind (arith, common_steps, sofar a)
