-- Words by what they have at each place, as they are passed.
use Rattle.std.proofs.Common.{◌≡◌, ℕ, ◌<◌, List, length, slice_index, arith}
use Rattle.word_image.specs.LocalRules.{IsWord}
use Rattle.word_image.specs.WordsBy.{IsWordBy}

-- a word is given by its letters
pub IsWordBy-letters : {j k m n : ℕ} {gives : ℕ → ℕ → Type 0} {w : List ℕ} → k ≡ j → n ≡ m → length w ≡ m → IsWord j w
    → ((i a : ℕ) → i < m → gives i a → a ≡ slice_index w i) → IsWordBy k n gives w
IsWordBy-letters base size long word given = grind arith
