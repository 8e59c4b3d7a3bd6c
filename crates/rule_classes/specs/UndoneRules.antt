-- This file says when a second rule undoes a first rule. Both rules have width m and offset o.
use Rattle.std.specs.Prelude.{◌≡◌, ℕ, ◌+◌, ◌-◌, ◌*◌, ◌<◌, List, length, slice_index, pos, ◌-ℤ◌}
use Rattle.word_image.specs.LocalRules.{LocalRule, IsWord}
use Rattle.word_image.specs.Words.{image}

-- if the first rule and then the second rule are applied to a word of n + 2 (m - 1) letters, the result has n letters, and its letter j is letter j - 2 o of the word
abbrev pub IsUndone : LocalRule → LocalRule → Type 0
IsUndone first second = (n : ℕ) (x : List ℕ) → IsWord first.states x → length x ≡ n + 2 * (first.width - 1)
    → (length (image second (image first x)) ≡ n)
    × ((i j : ℕ) → j < n → pos i ≡ (pos j -ℤ first.offset -ℤ first.offset) → slice_index (image second (image first x)) j ≡ slice_index x i)
