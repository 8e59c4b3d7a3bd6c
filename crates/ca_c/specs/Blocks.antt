-- The words of a command line in one block of bytes: each word is followed by a 0 byte.
use Rattle.std.specs.Prelude.{◌≡◌, ◌≢◌, ℕ, List, [], ◌∷◌, ◌++◌, All, take}
use Rattle.std.specs.Str.{IsUtf8}

-- the block of these words: each word with a 0 byte after it, one after another
abbrev pub block_of : List (List ℕ) → List ℕ
block_of [] = []
block_of (word ∷ words) = word ++ 0 ∷ block_of words

-- the word can be in a block: it is a text in UTF-8 without a 0 byte
pub record IsWordText (word : List ℕ) : Type 0 where
  pub text : IsUtf8 word
  pub unended : All (λ b. b ≢ 0) word

-- the block has exactly these words
pub record AreWords (block : List ℕ) (words : List (List ℕ)) : Type 0 where
  pub written : block ≡ block_of words
  pub texts : All IsWordText words

-- the greatest number of words of a block that a call keeps: one more than a command has
abbrev pub kept_words : ℕ
kept_words = 6

-- `first` has the words of the block, or only the first six of them if there are more
pub record AreFirstWords (block : List ℕ) (first : List (List ℕ)) : Type 0 where
  pub words : List (List ℕ)
  pub in_block : AreWords block words
  pub begin : first ≡ take kept_words words
