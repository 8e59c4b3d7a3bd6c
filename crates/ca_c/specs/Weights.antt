-- A call of the C library gives weights of words as 16 numbers and says how many of them count.
use Rattle.std.specs.Prelude.{ℕ, ◌-◌, List, ◌++◌, take, replicate, ℤ, pos}

-- the first `count` of the 16 weights, and 0 for all others
abbrev pub first_weights : ℕ → List ℤ → List ℤ
first_weights count weights = take count weights ++ replicate (16 - count) (pos 0)
