-- The least evidence of a rule is one.
use Rattle.std.proofs.Common.{◌≡◌, ℕ, List, refl, sym, ap, ap₂, ◌∙◌, Option, None, Some, arith}
use Rattle.word_image.proofs.Common.{LocalRule, IsRule}
use Rattle.cert_values.proofs.Common.{InjectiveEvidence, SideEvidence, SumEvidence, Window, Twins, Ahead, Split, Flux, Ring}
use Rattle.certificate_laws.specs.LeastEvidence.{Evidence, IsOrphanPart, IsInjectivePart, IsRightPart, IsLeftPart, IsConservingPart, IsLeastEvidence}
use Rattle.ring_laws.proofs.FluxWalks.{IsFlux-unique}
use Rattle.answer_laws.proofs.Least.{IsLeastOrphan-unique, IsLeastLossyRing-unique, IsLeastTwins-unique, IsLeastDetermined-unique, IsLeastRightAhead-unique, IsLeastRightSplit-unique, IsLeastLeftSplit-unique}

-- one answer says whether a rule is surjective, with the least orphan
pub IsOrphanPart-unique : (r : LocalRule) (o p : Option (List ℕ)) → IsOrphanPart r o → IsOrphanPart r p → o ≡ p
IsOrphanPart-unique r None None h g = refl
IsOrphanPart-unique r None (Some w) h g = let (x, is) = h w g.orphan.word in absurd (g.orphan.none x is)
IsOrphanPart-unique r (Some w) None h g = let (x, is) = g w h.orphan.word in absurd (h.orphan.none x is)
IsOrphanPart-unique r (Some v) (Some w) h g = ap Some (IsLeastOrphan-unique h g)

-- one answer says whether a rule is injective, with the least window or twins
pub IsInjectivePart-unique : (r : LocalRule) (e f : InjectiveEvidence) → IsInjectivePart r e → IsInjectivePart r f → e ≡ f
IsInjectivePart-unique r (Window n c) (Window m d) h g = let (long, place) = IsLeastDetermined-unique h.1 g.1 in ap₂ (λ (i j : ℕ). Window i j) long place
IsInjectivePart-unique r (Window n c) (Twins x y) h g = absurd (g.0 h.0)
IsInjectivePart-unique r (Twins x y) (Window n c) h g = absurd (h.0 g.0)
IsInjectivePart-unique r (Twins x y) (Twins u v) h g = let (first, second) = IsLeastTwins-unique h.1 g.1 in ap₂ (λ (a b : List ℕ). Twins a b) first second

-- one answer says whether a rule closes on the right, with the least look-ahead or split
pub IsRightPart-unique : (r : LocalRule) (e f : SideEvidence) → IsRightPart r e → IsRightPart r f → e ≡ f
IsRightPart-unique r (Ahead n) (Ahead m) h g = ap Ahead (IsLeastRightAhead-unique h.1 g.1)
IsRightPart-unique r (Ahead n) (Split x y) h g = absurd (g.0 h.0)
IsRightPart-unique r (Split x y) (Ahead n) h g = absurd (h.0 g.0)
IsRightPart-unique r (Split x y) (Split u v) h g = let (first, second) = IsLeastRightSplit-unique h.1 g.1 in ap₂ Split first second

-- one answer says whether a rule closes on the left, with the least look-ahead or split
pub IsLeftPart-unique : (r : LocalRule) (e f : SideEvidence) → IsLeftPart r e → IsLeftPart r f → e ≡ f
IsLeftPart-unique r (Ahead n) (Ahead m) h g = ap Ahead (IsLeastRightAhead-unique h.1 g.1)
IsLeftPart-unique r (Ahead n) (Split x y) h g = absurd (g.0 h.0)
IsLeftPart-unique r (Split x y) (Ahead n) h g = absurd (h.0 g.0)
IsLeftPart-unique r (Split x y) (Split u v) h g = let (first, second) = IsLeastLeftSplit-unique h.1 g.1 in ap₂ Split first second

-- one answer says whether a rule conserves weights, with the flux or the least ring
pub IsConservingPart-unique : (weight : ℕ → ℕ) {r : LocalRule} → IsRule r → (e f : SumEvidence) → IsConservingPart weight r e
    → IsConservingPart weight r f → e ≡ f
IsConservingPart-unique weight rule (Flux phi) (Flux psi) h g = ap Flux (IsFlux-unique rule h.1 h.2 ∙ sym (IsFlux-unique rule g.1 g.2))
IsConservingPart-unique weight rule (Flux phi) (Ring q) h g = absurd (g.0 h.0)
IsConservingPart-unique weight rule (Ring p) (Flux psi) h g = absurd (h.0 g.0)
IsConservingPart-unique weight rule (Ring p) (Ring q) h g = ap Ring (IsLeastLossyRing-unique h.1 g.1)

-- a rule has one least evidence
pub IsLeastEvidence-unique : {weight : ℕ → ℕ} {r : LocalRule} {e f : Evidence} → IsRule r → e.weights ≡ f.weights → IsLeastEvidence weight r e
    → IsLeastEvidence weight r f → e ≡ f
IsLeastEvidence-unique {weight} {r} {e} {f} rule weights h g =
    grind (arith, IsOrphanPart-unique, IsInjectivePart-unique, IsRightPart-unique, IsLeftPart-unique, IsConservingPart-unique)
