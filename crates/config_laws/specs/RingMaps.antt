-- Properties of the map from rings to their images.
use Rattle.std.specs.Prelude.{◌≡◌, List, ℕ, ◌≤◌, length}
use Rattle.std.specs.List.{repeat}
use Rattle.word_image.specs.LocalRules.{LocalRule}
use Rattle.word_image.specs.Rings.{IsRing, ring_image}

-- each ring is the image of exactly one ring of the same length
abbrev pub IsBijectiveOnRings : LocalRule → Type 0
IsBijectiveOnRings r = (q : List ℕ) → IsRing r.states q
    → (p : List ℕ) × IsRing r.states p × (length p ≡ length q) × (ring_image r p ≡ q) × ((s : List ℕ) → IsRing r.states s → ring_image r s ≡ q → s ≡ p)

-- each ring, repeated l times for some l, is the image of a ring
abbrev pub IsOntoRings : LocalRule → Type 0
IsOntoRings r = (q : List ℕ) → IsRing r.states q → (l : ℕ) × (p : List ℕ) × (1 ≤ l) × IsRing r.states p × (ring_image r p ≡ repeat l q)
