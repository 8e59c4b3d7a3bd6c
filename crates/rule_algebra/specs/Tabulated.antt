-- The table of a rule that is given by a function from windows to letters.
use Rattle.std.specs.Prelude.{ℕ, ◌^◌, List, map}
use Rattle.std.specs.List.{range_with_len}
use Rattle.word_image.specs.LocalRules.{word_of}

-- the table that has, for each window of m letters below k, the letter that the function f gives for the window
abbrev pub table_by : ℕ → ℕ → (List ℕ → ℕ) → List ℕ
table_by k m f = map (λ v. f (word_of k m v)) (range_with_len 0 (k ^ m))
