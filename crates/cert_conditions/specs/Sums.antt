-- A flux, which has an integer for each node, proves that a rule keeps the sum of the weights of letters on each ring.
-- A ring whose image has another sum proves that it doesn't (Hattori and Takesue 1991). This file defines the
-- conditions on such a flux and on such a ring.
use Rattle.std.specs.Prelude.{◌≡◌, ℕ, ◌-◌, ◌≤◌, List, length, take, drop, slice_index, slice_index_or, ℤ, pos, ◌-ℤ◌}
use Rattle.word_image.specs.LocalRules.{LocalRule, local_map, value}
use Rattle.word_image.specs.Rings.{KeepsSum}

-- the integer of the flux phi at node u, or 0 past the last node
abbrev pub flux_at : List ℤ → ℕ → ℤ
flux_at phi u = slice_index_or phi u (pos 0)

-- the flux balances at the window w: the weight of its image minus the weight of its first letter is phi at the first node of w minus phi at the last node of w
abbrev pub Flows : (ℕ → ℕ) → LocalRule → List ℤ → List ℕ → Type 0
Flows weight r phi w =
    (pos (weight (local_map r w)) -ℤ pos (weight (slice_index w 0))) ≡ (flux_at phi (value r.states (take (r.width - 1) w)) -ℤ flux_at phi (value r.states (drop 1 w)))

-- the ring has at least one letter, and its image has another sum of weights
abbrev pub IsLossy : (ℕ → ℕ) → LocalRule → List ℕ → Type 0
IsLossy weight r p = (1 ≤ length p) × ¬ KeepsSum weight r p
