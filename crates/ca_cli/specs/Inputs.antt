-- The command `check` reads its whole input from a source of bytes, unless the input is too long. A source may tell
-- which bytes it has left: `input` has these bytes, or is None if the source doesn't tell.
use Rattle.std.specs.Prelude.{◌≡◌, ℕ, ◌+◌, ◌≤◌, List, length, Option, MatchOption, ⊤}

-- the greatest number of bytes that the judge accepts
abbrev pub most_input : ℕ
most_input = 4194304

-- the bytes are a whole input: at most as many as the judge accepts, and exactly the bytes that the source had left if it tells them
pub record IsWholeInput (input : Option (List ℕ)) (bytes : List ℕ) : Type 0 where
  pub all : MatchOption input ⊤ (λ left. bytes ≡ left)
  pub short : length bytes ≤ most_input

-- the input is too long: if the source tells which bytes it has left, these are more than the judge accepts
abbrev pub IsLongInput : Option (List ℕ) → Type 0
IsLongInput input = MatchOption input ⊤ (λ left. most_input + 1 ≤ length left)
