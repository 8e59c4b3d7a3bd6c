-- Bytes are accepted with one list of verdicts, or refused for one reason, and never both.
use Rattle.std.proofs.Common.{◌≡◌, ℕ, List, sym, ap, ◌∙◌, subst}
use Rattle.cert_values.proofs.laws.Uniqueness.{IsCertificateText-unique}
use Rattle.cert_values.proofs.laws.ShapeFaults.{IsCertificateText-no_fault, IsShapeFault-unique}
use Rattle.cert_conditions.specs.declared.verdicts.Verdicts.{Verdicts}
use Rattle.cert_conditions.specs.declared.refusal.Refusal.{Refusal}
use Rattle.cert_conditions.specs.declared.refusal.Refusal.TheVariants as refusal
use Rattle.cert_conditions.specs.Accepted.{IsAccepted, verdicts_of}
use Rattle.cert_conditions.specs.Conditions.{MeetsConditions}
use Rattle.cert_conditions.specs.Refusals.{IsRefusal, IsFirstUnmet}
use Rattle.cert_conditions.specs.Refusals.IsRefusal.{NoShape, Unmet}
use Rattle.cert_conditions.proofs.laws.Breaches.{unmet_fails}
use Rattle.cert_conditions.proofs.laws.OneBreach.{one_unmet}

-- accepted bytes have one list of verdicts
pub IsAccepted-unique : {bytes : List ℕ} {v w : Verdicts} → IsAccepted bytes v → IsAccepted bytes w → v ≡ w
IsAccepted-unique h k = h.verdicts ∙ ap verdicts_of (IsCertificateText-unique h.text k.text) ∙ sym k.verdicts

-- accepted bytes aren't refused
pub accepted_not_refused : {bytes : List ℕ} {v : Verdicts} {f : Refusal} → IsAccepted bytes v → IsRefusal bytes f → ⊥
accepted_not_refused h (NoShape s fault) = IsCertificateText-no_fault h.text fault
accepted_not_refused h (Unmet c f text unmet) = unmet_fails unmet (subst MeetsConditions (IsCertificateText-unique h.text text) h.meets)

-- refused bytes are refused for one reason
pub IsRefusal-unique : {bytes : List ℕ} {f g : Refusal} → IsRefusal bytes f → IsRefusal bytes g → f ≡ g
IsRefusal-unique (NoShape s h) (NoShape t k) = ap refusal.Format (IsShapeFault-unique h k)
IsRefusal-unique (NoShape s h) (Unmet c g text k) = absurd (IsCertificateText-no_fault text h)
IsRefusal-unique (Unmet c f text h) (NoShape s k) = absurd (IsCertificateText-no_fault text k)
IsRefusal-unique (Unmet c f text h) (Unmet d g other k) = one_unmet (subst (λ c. IsFirstUnmet c f) (IsCertificateText-unique text other) h) k
