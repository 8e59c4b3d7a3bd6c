-- The weights of letters: a number from 0 to 255 for each letter. The sum of a word is the sum of the weights of its
-- letters.
use Rattle.std.specs.Prelude.{◌≡◌, ℕ, ◌≤◌, List, length, All}
use Rattle.std.specs.List.{range_with_len}

-- the list has a weight from 0 to 255 for each of k letters
pub record AreWeights (k : ℕ) (weights : List ℕ) : Type 0 where
  pub each_letter : length weights ≡ k
  pub small : All (λ w. w ≤ 255) weights

-- the weights that are the letters' own values, from 0 to k - 1
abbrev pub own_weights : ℕ → List ℕ
own_weights k = range_with_len 0 k
