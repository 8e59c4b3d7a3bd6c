-- The evidence that a rule of width m keeps the weight of every ring, or that it doesn't. For a yes the evidence is a
-- flux, which has a number for each node. For each window, the weight of its new letter minus the weight of its first
-- letter is the number of its first node minus the number of its last node. For a no the evidence is a ring.
use Rattle.std.specs.Prelude.{◌≡◌, ⊤, ℕ, ◌-◌, ◌*◌, ◌≤◌, List, length, take, drop, replicate, slice_get, Some, Bool, true, false, ℤ, pos}
use Rattle.word_image.specs.LocalRules.{LocalRule, node_count, most_nodes}
use Rattle.word_image.specs.Rings.{IsFlux, IsLeastLossyRing}
use Rattle.flux_conserve.specs.declared.verdict.Keeping.{Keeping}
use Rattle.flux_conserve.specs.declared.verdict.Keeping.TheVariants.{Flux, Ring}

-- `row` has the flux that is 0 at node 0, followed by zeros up to 16 numbers; no other flux is 0 at node 0
pub record IsFluxRow (weight : ℕ → ℕ) (r : LocalRule) (row : List ℤ) : Type 0 where
  pub flux : IsFlux weight r (take (node_count r) row)
  pub starts : slice_get row 0 ≡ Some (pos 0)
  pub zeros : drop (node_count r) row ≡ replicate (most_nodes - node_count r) (pos 0)
  pub only : (phi : List ℤ) → IsFlux weight r phi → slice_get phi 0 ≡ Some (pos 0) → phi ≡ take (node_count r) row

-- whether the result is a flux, and not a ring
abbrev pub has_flux : Keeping → Bool
has_flux (Flux row) = true
has_flux (Ring ring) = false

-- the result is right: `Flux` gives the flux that is 0 at node 0, and `Ring` gives the least ring that doesn't keep its sum
abbrev pub IsShown : (ℕ → ℕ) → LocalRule → Keeping → Type 0
IsShown weight r (Flux row) = IsFluxRow weight r row
IsShown weight r (Ring ring) = IsLeastLossyRing weight r ring

-- if the result is a ring, it has at most 2 m - 1 letters
abbrev pub IsShort : LocalRule → Keeping → Type 0
IsShort r (Flux row) = ⊤
IsShort r (Ring ring) = length ring ≤ 2 * r.width - 1
