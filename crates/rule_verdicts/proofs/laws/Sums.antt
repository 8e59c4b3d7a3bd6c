-- The evidence about sums that a search for a flux gives.
use Rattle.std.proofs.Common.{ℕ, zero, suc, ◌<◌, List, [], ◌∷◌, take, ◌≡◌, refl, arith, pos, Some, slice_get, ◌↔◌, IsTrue}
use Rattle.word_image.proofs.Common.{false≢true, node_count, node_count_pos, LocalRule, IsRule, IsConserving}
use Rattle.flux_conserve.specs.declared.verdict.Keeping.{Keeping}
use Rattle.flux_conserve.specs.declared.verdict.Keeping.TheVariants.{Flux, Ring}
use Rattle.flux_conserve.specs.Keepings.{IsShown, has_flux}
use Rattle.certificate_laws.specs.LeastEvidence.{IsConservingPart}
use Rattle.rule_verdicts.specs.Reports.{sum_of}

-- a list begins with the first of its first items
first_of_take : {A : Type 0} (n : ℕ) (xs : List A) (x : A) → 0 < n → slice_get xs 0 ≡ Some x → slice_get (take n xs) 0 ≡ Some x
first_of_take zero xs x some first = absurd (omega arith)
first_of_take (suc n) [] x some first = first
first_of_take (suc n) (y ∷ xs) x some first = first

-- a flux or a ring that is shown is right evidence about the sum
pub IsConservingPart-shown : (weight : ℕ → ℕ) {r : LocalRule} (k : Keeping) → IsRule r → IsTrue (has_flux k) ↔ IsConserving weight r
    → IsShown weight r k → IsConservingPart weight r (sum_of r k)
IsConservingPart-shown weight {r} (Flux flows) rule exact shown = (exact.0 refl, shown.flux, first_of_take (node_count r) flows (pos 0) (node_count_pos rule) shown.starts)
IsConservingPart-shown weight (Ring ring) rule exact shown = ((λ keep. false≢true (exact.1 keep)), shown)
