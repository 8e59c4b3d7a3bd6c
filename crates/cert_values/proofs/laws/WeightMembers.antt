-- The weights of a certificate: read within their limits, and written exactly where they aren't the letters' own.
use Rattle.std.proofs.Common.{◌≡◌, ℕ, ◌⊎◌, inl, inr, List, map, codes, bytes_eq, true, sym, subst, ◌∙◌, ⊎_elim, arith}
use Rattle.std.proofs.lemmas.Slice.Eq.{bytes_eq-Decides}
use Rattle.word_image.proofs.Common.{cases_Bool, false≢true, LocalRule, IsRule, AreWeights, own_weights}
use Rattle.serde_json.specs.Data.{Members, no_members, member}
use Rattle.word_image.proofs.laws.Weights.{AreWeights-own}
use Rattle.cert_values.specs.declared.cert_version.CertVersion.{CertVersion}
use Rattle.cert_values.specs.Versions.{names_weights}
use Rattle.cert_values.specs.Parts.{IsWeightShape}
use Rattle.cert_values.specs.CertificateTexts.{HasWeights}
use Rattle.cert_values.specs.CertificateTexts.HasWeights.{Named, Own}
use Rattle.cert_values.specs.WrittenTexts.{array_from, whole_value, weights_members}

-- weights that are read are within their limits
pub IsWeightShape-has : {version : CertVersion} {r : LocalRule} {ms : Members} {weights : List ℕ} → IsRule r → HasWeights version r ms weights
    → IsWeightShape version r weights
IsWeightShape-has rule (Named names has are) = record { each = are; own = λ none. absurd (false≢true (sym none ∙ names)) }
IsWeightShape-has {r = r} rule (Own absent own) =
    let few = rule.shape.most_states in
    record { each = subst (AreWeights r.states) (sym own) (AreWeights-own (omega arith)); own = λ none. own }

-- weights other than the letters' own come where the version names weights
pub names_weights-other : {version : CertVersion} {r : LocalRule} {weights : List ℕ} → IsWeightShape version r weights
    → ¬ (weights ≡ own_weights r.states) → names_weights version ≡ true
names_weights-other {version} shape other =
    ⊎_elim (λ yes. yes) (λ no. absurd (other (shape.own no))) (cases_Bool (names_weights version))

-- the member of weights
abbrev pub weights_member : List ℕ → Members
weights_member weights = member (codes "weights") (array_from (map whole_value weights)) no_members

-- own weights aren't written, and other ones are
pub weights_members-cases : (r : LocalRule) (weights : List ℕ)
    → ((weights ≡ own_weights r.states) × (weights_members r weights ≡ no_members)) ⊎ ((¬ (weights ≡ own_weights r.states)) × (weights_members r weights ≡ weights_member weights))
weights_members-cases r weights =
    let same = bytes_eq-Decides weights (own_weights r.states) in
    ⊎_elim
    (λ yes. inl (same.0 yes, rw yes))
    (λ no. inr ((λ own. false≢true (sym no ∙ same.1 own)), rw no))
    (cases_Bool (bytes_eq weights (own_weights r.states)))
