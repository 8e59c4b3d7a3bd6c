-- The place at which a text that isn't in a grammar goes wrong: the length of its longest prefix that can be completed
-- to a text of the grammar. A grammar is any property of texts, and a text is a list of bytes.
use Rattle.std.specs.Prelude.{ℕ, ◌<◌, ◌≤◌, List, ◌++◌, length, take}

-- some text of the grammar begins with this text
pub record Begins (IsText : List ℕ → Type 0) (text : List ℕ) : Type 0 where
  pub more : List ℕ
  pub whole : IsText (text ++ more)

-- the text isn't in the grammar. `place` is the length of its longest prefix with which some text of the grammar begins
pub record IsFormFault (IsText : List ℕ → Type 0) (text : List ℕ) (place : ℕ) : Type 0 where
  pub outside : ¬ IsText text
  pub within : place ≤ length text
  pub begins : Begins IsText (take place text)
  pub longest : (n : ℕ) → place < n → n ≤ length text → ¬ Begins IsText (take n text)
