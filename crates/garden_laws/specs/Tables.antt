-- How often letters occur in a table, and their mean.
use Rattle.std.specs.Prelude.{◌≡◌, ℕ, ◌+◌, ◌*◌, ◌<◌, ◌==◌, List, length, sum, count_by}

-- each of the k letters occurs equally often in the table
abbrev pub IsEven : ℕ → List ℕ → Type 0
IsEven k table = (a : ℕ) → a < k → k * count_by (λ b. b == a) table ≡ length table

-- the mean of the letters in the table is (k - 1) / 2, which is the mean of the letters from 0 to k - 1
abbrev pub HasMean : ℕ → List ℕ → Type 0
HasMean k table = 2 * sum table + length table ≡ k * length table
