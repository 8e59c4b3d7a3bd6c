-- The start of a property of numbers: the property holds for this number and all greater ones, and for no lesser one. A
-- start of None means that the property holds for no number.
use Rattle.std.specs.Prelude.{ℕ, ◌≤◌, ◌↔◌, Option, Some, None, MatchOption, IsSomeAnd, max}

-- P has this start: P holds for n if and only if n is at least `start`, and for no n if `start` is None
abbrev pub HoldsFrom : Option ℕ → (ℕ → Type 0) → Type 0
HoldsFrom start P = MatchOption start ((n : ℕ) → ¬ P n) (λ a. (n : ℕ) → P n ↔ (a ≤ n))

-- n is at least the number `start`, and `start` isn't None
abbrev pub HasBegun : Option ℕ → ℕ → Type 0
HasBegun start n = IsSomeAnd start (λ a. a ≤ n)

-- if two properties have these starts, this is the start of the property that both hold: the greater of the two starts, or None if one of them is None
abbrev pub later : Option ℕ → Option ℕ → Option ℕ
later None start = None
later (Some a) None = None
later (Some a) (Some b) = Some (max a b)
