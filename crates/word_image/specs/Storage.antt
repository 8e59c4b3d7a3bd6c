-- How the program stores a table or a list of weights: the numbers, followed by zeros up to a fixed size.
use Rattle.std.specs.Prelude.{◌≡◌, ℕ, ◌-◌, List, ◌++◌, length, take, drop, replicate}
use Rattle.std.proofs.Common.{ap, ◌∙◌, sym, take-append-drop}
use Rattle.word_image.specs.LocalRules.{most_windows}

-- the numbers of the list, followed by zeros up to `size` numbers
abbrev pub in_row : ℕ → List ℕ → List ℕ
in_row size numbers = numbers ++ replicate (size - length numbers) 0

-- a table, followed by zeros up to 256 numbers
abbrev pub padded : List ℕ → List ℕ
padded table = in_row most_windows table

-- if a list of `size` numbers has only zeros after its first n entries, it is equal to these n entries followed by zeros
pub in_row-take : (size n : ℕ) (entries : List ℕ) → length (take n entries) ≡ n → drop n entries ≡ replicate (size - n) 0
    → in_row size (take n entries) ≡ entries
in_row-take size n entries long zeros =
    ap (λ j. take n entries ++ replicate (size - j) 0) long ∙ ap (λ rest. take n entries ++ rest) (sym zeros) ∙ take-append-drop n entries
