-- Letters that are read back from the images of words, one word after the other.
use Rattle.std.proofs.Common.{inl, inr, ◌≡◌, ◌≢◌, ℕ, ◌+◌, ◌<◌, List, length, set, slice_index, ⊎_elim, arith, length-set, get_or-set_other, below_more}
use Rattle.word_image.proofs.Common.{cases_eq, get_or-set_at}
use Rattle.inverse_table.specs.ImageValues.{IsRead, IsLetterBack, HasApart}

-- one more word for an image that it doesn't have, or whose letter was read before
IsLetterBack-more : (letter : ℕ → ℕ) (images : List ℕ) (count e a : ℕ) → IsLetterBack letter images count e a
    → (slice_index images count ≡ e → a ≢ 16) → IsLetterBack letter images (count + 1) e a
IsLetterBack-more letter images count e a back here = ⊎_elim (λ found. inl (found.0, omega arith, found.2, found.3)) (λ none. inr (below_more (λ word. slice_index images word ≢ e) count none.0 (λ at. here at none.1), none.1)) back

-- a word whose image has its letter
pub IsRead-same : {letter : ℕ → ℕ} {images letters : List ℕ} (count at a : ℕ) → IsRead letter images count letters → at ≡ slice_index images count
    → letter count ≡ a
    → slice_index letters at ≡ a → a < 16 → IsRead letter images (count + 1) letters
IsRead-same {letter} {images} {letters} count at a h here is same below = grind (arith, cases_eq, IsLetterBack-more)

-- a word whose image has no letter yet
pub IsRead-new : {letter : ℕ → ℕ} {images letters : List ℕ} (count at a : ℕ) → IsRead letter images count letters → at ≡ slice_index images count
    → letter count ≡ a
    → slice_index letters at ≡ 16 → at < length letters → ((word : ℕ) → letter word < 16) → IsRead letter images (count + 1) (set letters at a)
IsRead-new {letter} {images} {letters} count at a h here is empty within below =
    grind (arith, get_or-set_at, get_or-set_other, cases_eq, IsLetterBack-more, length-set)

-- a word whose image has another letter
pub HasApart-read : {letter : ℕ → ℕ} {images letters : List ℕ} (count at a : ℕ) → IsRead letter images count letters → at ≡ slice_index images count
    → letter count ≡ a
    → slice_index letters at ≢ 16 → slice_index letters at ≢ a → count < length images → at < length letters → HasApart letter images count
HasApart-read {letter} {images} {letters} count at a h here is some other inside within = grind arith
