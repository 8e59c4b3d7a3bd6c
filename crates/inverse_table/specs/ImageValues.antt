-- How the inverse map of a window is computed: the program goes through all words of one length and stores, at the
-- image of each word, the letter of the word at one place. Words are given by their values. `images` has the value of
-- the image of each word, and the function `letter` gives the letter of a word at the place.
use Rattle.std.specs.Prelude.{◌≡◌, ◌≢◌, ℕ, ◌+◌, ◌-◌, ◌*◌, ◌/◌, ◌%◌, ◌^◌, ◌<◌, ◌⊎◌, List, length, slice_index, slice_range}
use Rattle.word_image.specs.LocalRules.{LocalRule, IsWord, value}
use Rattle.word_image.specs.Words.{image}

-- `images` has the value of the image of each word of n + m - 1 letters, at the place of the word's value
pub record AreImageValues (r : LocalRule) (n : ℕ) (images : List ℕ) : Type 0 where
  pub long : length images ≡ r.states ^ (n + (r.width - 1))
  pub each : (x : List ℕ) → IsWord r.states x → length x ≡ n + (r.width - 1) → slice_index images (value r.states x) ≡ value r.states (image r x)

-- the letters that the rule gives for the windows that begin with node u, in the order of the last letter of the window
abbrev pub labels_from : LocalRule → ℕ → List ℕ
labels_from r u = slice_range r.table (u * r.states) (u * r.states + r.states)

-- the letter of a word at a place; `word` is the value of the word, and `unit` is k to the power of the number of letters after this place
abbrev pub letter_by_unit : ℕ → ℕ → ℕ → ℕ
letter_by_unit k unit word = word / unit % k

-- a is the letter of one of the first `count` words that have the image e, or 16 if none of these words has the image e
abbrev pub IsLetterBack : (ℕ → ℕ) → List ℕ → ℕ → ℕ → ℕ → Type 0
IsLetterBack letter images count e a =
    ((word : ℕ) × (word < count) × (slice_index images word ≡ e) × (a ≡ letter word))
    ⊎ (((word : ℕ) → word < count → slice_index images word ≢ e) × (a ≡ 16))

-- for each e, place e of `letters` has the letter of one of the first `count` words that have the image e, or 16 if none of them has
abbrev pub AreLettersBack : (ℕ → ℕ) → List ℕ → ℕ → List ℕ → Type 0
AreLettersBack letter images count letters = (e : ℕ) → e < length letters → IsLetterBack letter images count e (slice_index letters e)

-- for each of the first `count` words, `letters` has the letter of the word, at the place of the word's image
abbrev pub AreReadBack : (ℕ → ℕ) → List ℕ → ℕ → List ℕ → Type 0
AreReadBack letter images count letters = (word : ℕ) → word < count → slice_index letters (slice_index images word) ≡ letter word

-- `letters` is right for the first `count` words: it has the letter of each word at the place of the word's image, and 16 at all other places
pub record IsRead (letter : ℕ → ℕ) (images : List ℕ) (count : ℕ) (letters : List ℕ) : Type 0 where
  pub each : AreReadBack letter images count letters
  pub back : AreLettersBack letter images count letters

-- x and y are two words, given by their values, that have the same image and different letters at the place
pub record AreUndetermined (letter : ℕ → ℕ) (images : List ℕ) (x y : ℕ) : Type 0 where
  pub first : x < length images
  pub second : y < length images
  pub one_image : slice_index images x ≡ slice_index images y
  pub differ : letter x ≢ letter y

-- some word has the same image as the word x and a different letter at the place
abbrev pub HasApart : (ℕ → ℕ) → List ℕ → ℕ → Type 0
HasApart letter images x = (y : ℕ) × AreUndetermined letter images x y
