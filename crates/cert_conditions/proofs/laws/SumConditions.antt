-- What a flux and a lossy ring say of conservation, and what says so of every rule (Hattori and Takesue 1991).
use Rattle.std.proofs.Common.{ℕ, ◌^◌, refl, ◌↔◌, IsTrue}
use Rattle.word_image.proofs.Common.{false≢true, LocalRule, IsRule, word_of, IsConserving}
use Rattle.ring_laws.proofs.Fluxes.{IsConserving-flux}
use Rattle.ring_laws.proofs.FluxWindows.{IsFlux-windows}
use Rattle.cert_values.proofs.Common.{SumEvidence, IsSumShape, Flux, Ring}
use Rattle.cert_conditions.specs.Breaches.{EachBelow}
use Rattle.cert_conditions.specs.Sums.{Flows, IsLossy}
use Rattle.cert_conditions.specs.Conditions.{OfFlux, OfRing}
use Rattle.cert_values.specs.Evidence.{says_conserving}
use Rattle.cert_conditions.proofs.laws.WindowFlows.{Flows-value}

-- what is said of conservation is true where its conditions are met
pub IsConserving-said : {r : LocalRule} → IsRule r → (weight : ℕ → ℕ) (e : SumEvidence) → IsSumShape r e
    → OfFlux e (λ phi. EachBelow (r.states ^ r.width) (λ v. Flows weight r phi (word_of r.states r.width v)))
    → OfRing e (IsLossy weight r) → IsTrue (says_conserving e) ↔ IsConserving weight r
IsConserving-said rule weight (Flux phi) shape flows lossy = ((λ _. IsConserving-flux rule (IsFlux-windows rule shape.0 (λ v l. (Flows-value rule weight phi v l).1 (flows v l)))), (λ _. refl))
IsConserving-said {r} rule weight (Ring p) shape flows lossy = ((λ no. absurd (false≢true no)), (λ conserving. absurd (lossy.1 (conserving p (record { word = shape; some = lossy.0 })))))
