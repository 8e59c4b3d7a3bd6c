-- A search sets the letters of a table one after another, in an order of the windows, and goes through the tables by
-- ascending rank. The rank is the number in base k whose digits are the letters in this order. Some letters are fixed:
-- the list `letters` has a number for each window, and a number below k fixes the letter of its window.
use Rattle.std.specs.Prelude.{◌≡◌, ℕ, ◌+◌, ◌-◌, ◌*◌, ◌^◌, ◌<◌, ◌≤◌, List, slice_index, Option, Some, None}
use Rattle.rule_lists.specs.Ranks.{rank_of_first}

-- the table begins with `size` letters below k
abbrev pub IsTable : ℕ → ℕ → List ℕ → Type 0
IsTable k size table = (v : ℕ) → v < size → slice_index table v < k

-- the table has each fixed letter
abbrev pub HasLetters : ℕ → ℕ → List ℕ → List ℕ → Type 0
HasLetters k size letters table = (v : ℕ) → v < size → slice_index letters v < k → slice_index table v ≡ slice_index letters v

-- the search hasn't passed the table t: the first n letters of t have at least the rank of the first n letters of `table`; None as n means that all tables are passed
abbrev pub IsPast : ℕ → List ℕ → List ℕ → Option ℕ → List ℕ → Type 0
IsPast k order table None t = ⊥
IsPast k order table (Some n) t = rank_of_first k order table n ≤ rank_of_first k order t n

-- how far a search is at n letters of a table: more for a greater rank of the first table with these letters, and for the same rank more for more letters
abbrev pub how_far : ℕ → ℕ → List ℕ → List ℕ → ℕ → ℕ
how_far k size order table n = rank_of_first k order table n * k ^ (size - n) * (size + 1) + n

-- i letters of `new` are further on than n letters of `old`
abbrev pub IsFurther : ℕ → ℕ → List ℕ → List ℕ → ℕ → List ℕ → ℕ → Type 0
IsFurther k size order old n new i = how_far k size order old n < how_far k size order new i
