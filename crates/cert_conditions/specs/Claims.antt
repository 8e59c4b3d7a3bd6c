-- A certificate claims bounds of ranks. The rank of a pair of nodes says how long two walks from its nodes, or to its
-- nodes, can have equal labels. A row has a claim for each pair: an upper bound of the rank, or None. Claims prove
-- determined windows and look-aheads.
use Rattle.std.specs.Prelude.{◌≡◌, ℕ, ◌<◌, List, slice_index_or, Option, Some, None, ◌-◌, min, ◌⊎◌}
use Rattle.word_image.specs.LocalRules.{LocalRule}
use Rattle.word_image.specs.declared.side.Side.{Side}
use Rattle.word_image.specs.Graphs.{LeadsOn, node_letter, first_of, second_of}

-- the claim for pair p in the row; None if the row has no such place
abbrev pub claim : List (Option ℕ) → ℕ → Option ℕ
claim row p = slice_index_or row p None

-- the row claims a number below n for the pair p
abbrev pub IsBelow : List (Option ℕ) → ℕ → ℕ → Type 0
IsBelow row p n = (m : ℕ) × (claim row p ≡ Some m) × (m < n)

-- if the row claims n for the pair p, it claims a number below n for each pair that a step on this side reaches from p
abbrev pub Falls : Side → LocalRule → List (Option ℕ) → ℕ → Type 0
Falls side r row p = (n q : ℕ) → claim row p ≡ Some n → LeadsOn side r p q → IsBelow row q n

-- the pair p agrees with the window (n, c): for j = min(c, n), both nodes have the same letter at place c - j, or the backward claim for p is below j, or the forward claim is below n - j
abbrev pub IsWindowPair : LocalRule → List (Option ℕ) → List (Option ℕ) → ℕ → ℕ → ℕ → Type 0
IsWindowPair r forward backward n c p =
    (node_letter r (first_of r p) (c - min c n) ≡ node_letter r (second_of r p) (c - min c n)) ⊎ (IsBelow backward p (min c n) ⊎ IsBelow forward p (n - min c n))

-- the pair p agrees with the look-ahead n: if p has the property `First`, the row claims a number below n - 1 for it
abbrev pub IsAheadPair : (ℕ → Type 0) → List (Option ℕ) → ℕ → ℕ → Type 0
IsAheadPair First row n p = First p → IsBelow row p (n - 1)
