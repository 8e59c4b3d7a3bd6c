-- Words given by a relation: `gives i a` means that the word has the letter a at place i.
use Rattle.std.specs.Prelude.{◌≡◌, ℕ, ◌<◌, List, length, slice_index}
use Rattle.word_image.specs.LocalRules.{IsWord}

-- w is a word of n letters below k, and it has the letter a at place i if `gives i a` holds
pub record IsWordBy (k n : ℕ) (gives : ℕ → ℕ → Type 0) (w : List ℕ) : Type 0 where
  pub word : IsWord k w
  pub long : length w ≡ n
  pub letters : (i a : ℕ) → i < n → gives i a → a ≡ slice_index w i
