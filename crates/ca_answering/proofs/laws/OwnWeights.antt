-- With own weights what is found of a rule is what the values of its letters say.
use Rattle.std.proofs.Common.{◌≡◌, List, ℕ, slice_index, ◌∙◌, Option, None, Some}
use Rattle.word_image.proofs.Common.{LocalRule, IsRule, own_weights}
use Rattle.ring_laws.proofs.SameWeights.{AgreeOn-own, IsConserving-own, IsFlux-agree, IsLeastLossyRing-agree}
use Rattle.cert_values.specs.declared.cert_version.CertVersion.{CertVersion}
use Rattle.cert_values.proofs.Common.{SumEvidence, Flux, Ring}
use Rattle.certificate_laws.specs.LeastEvidence.{Evidence, IsConservingPart, IsLeastEvidence}
use Rattle.ca_questions.proofs.Common.{Question, Finding, Cause, IsFinding, IsCauseFor, AreFor, weight_by, weights_by}

-- evidence by own weights is evidence by the letters as weights
IsConservingPart-own : {r : LocalRule} → IsRule r → (e : SumEvidence) → IsConservingPart (slice_index (own_weights r.states)) r e
    → IsConservingPart (λ a. a) r e
IsConservingPart-own {r} rule (Flux phi) part = ((IsConserving-own rule).0 part.0, IsFlux-agree rule (AgreeOn-own r.states) part.1, part.2)
IsConservingPart-own {r} rule (Ring p) part = ((λ keep. part.0 ((IsConserving-own rule).1 keep)), IsLeastLossyRing-agree rule (AgreeOn-own r.states) part.1)

-- the least evidence by the weights of a row is the least by the weights that are named, or by the letters themselves
IsLeastEvidence-by : {r : LocalRule} {e : Evidence} (named : Option (List ℕ)) → IsRule r → IsLeastEvidence (slice_index (weights_by named r)) r e
    → IsLeastEvidence (weight_by named) r e
IsLeastEvidence-by {r} {e} None rule least = record {
  rule = least.rule;
  surjective = least.surjective;
  injective = least.injective;
  right = least.right;
  left = least.left;
  conserving = IsConservingPart-own rule e.conserving least.conserving;
}
IsLeastEvidence-by (Some weights) rule least = least

-- a report by the weights of a row is right for the weights that are named
pub IsFinding-by : {r : LocalRule} {e : Evidence} {ws : List ℕ} (named : Option (List ℕ)) → IsRule r → AreFor named r → e.weights ≡ ws
    → ws ≡ weights_by named r → IsLeastEvidence (slice_index ws) r e
    → IsFinding (Question.Report r named) (Finding.Report e)
IsFinding-by {r} {e} named rule are weights same least =
    IsFinding.Report r named e are (weights ∙ same) (IsLeastEvidence-by named rule (rw same at least))

-- no report fits weights that aren't one for each letter
pub cause-report : {r : LocalRule} (named : Option (List ℕ)) → ¬ AreFor named r → IsCauseFor (Question.Report r named) Cause.Weights
cause-report None other = absurd (other tt)
cause-report {r} (Some weights) other = IsCauseFor.Report r weights other

-- no certificate fits weights that aren't one for each letter
pub cause-certificate : {v : CertVersion} {r : LocalRule} (named : Option (List ℕ)) → ¬ AreFor named r
    → IsCauseFor (Question.Certify v r named) Cause.Weights
cause-certificate None other = absurd (other tt)
cause-certificate {v} {r} (Some weights) other = IsCauseFor.Written v r weights other
