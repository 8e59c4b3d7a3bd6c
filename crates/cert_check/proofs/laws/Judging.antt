-- What reading bytes says of their acceptance and refusal.
use Rattle.std.proofs.Common.{◌≡◌, ℕ, List, ◌⊎◌, Ok, Err, ap, ◌∙◌, subst, ⊎_elim, Result, alloc_error}
use Rattle.cert_values.proofs.Common.{Certificate, IsCertificateText}
use Rattle.cert_values.specs.ShapeFaults.{IsShapeFault}
use Rattle.cert_values.specs.declared.shape_fault.ShapeFault.{ShapeFault}
use Rattle.cert_format.specs.declared.cert_fault.CertFault.{CertFault}
use Rattle.cert_format.specs.declared.cert_fault.CertFault.TheVariants as cert_fault
use Rattle.cert_conditions.specs.declared.verdicts.Verdicts.{Verdicts}
use Rattle.cert_conditions.specs.declared.refusal.Refusal.{Refusal}
use Rattle.cert_conditions.specs.declared.refusal.Refusal.TheVariants as refusal
use Rattle.cert_conditions.proofs.Common.{IsAccepted, verdicts_of, MeetsConditions, IsRefusal, IsFirstUnmet}
use Rattle.cert_conditions.specs.Refusals.IsRefusal.{NoShape, Unmet}

-- each certificate of the bytes was read, unless memory was refused
abbrev pub ReadsEach : List ℕ → Result Certificate CertFault → Type 0
ReadsEach bytes read = (c : Certificate) → IsCertificateText bytes c → (read ≡ Ok c) ⊎ (read ≡ Err (cert_fault.Memory alloc_error))

-- each fault of the shape of the bytes was named, unless memory was refused
abbrev pub NamesEach : List ℕ → Result Certificate CertFault → Type 0
NamesEach bytes read = (s : ShapeFault) → IsShapeFault bytes s → (read ≡ Err (cert_fault.Format s)) ⊎ (read ≡ Err (cert_fault.Memory alloc_error))

-- a certificate that was read is the only one
only_cert : {bytes : List ℕ} {read : Result Certificate CertFault} {c d : Certificate} → ReadsEach bytes read → read ≡ Ok c
    → IsCertificateText bytes d → d ≡ c
only_cert {d = d} each is text = ⊎_elim (λ same. cc) (λ none. absurd (cc)) (each d text)

-- what is accepted has the verdicts of the certificate that was read, which meets the conditions
pub accepted-read : {bytes : List ℕ} {read : Result Certificate CertFault} {c : Certificate} {v : Verdicts} → ReadsEach bytes read → read ≡ Ok c
    → IsAccepted bytes v → (v ≡ verdicts_of c) × MeetsConditions c
accepted-read each is h = let same = only_cert each is h.text in (h.verdicts ∙ ap verdicts_of same, subst MeetsConditions same h.meets)

-- what is refused where a certificate was read is its first breach
pub refusal-read : {bytes : List ℕ} {read : Result Certificate CertFault} {c : Certificate} {f : Refusal} → ReadsEach bytes read
    → NamesEach bytes read → read ≡ Ok c → IsRefusal bytes f → IsFirstUnmet c f
refusal-read each names is (NoShape s fault) = ⊎_elim (λ named. absurd (cc)) (λ none. absurd (cc)) (names s fault)
refusal-read each names is (Unmet d f text h) = subst (λ c. IsFirstUnmet c f) (only_cert each is text) h

-- where a fault was named, that fault alone is refused
pub refusal-named : {bytes : List ℕ} {read : Result Certificate CertFault} {s : ShapeFault} {f : Refusal} → ReadsEach bytes read
    → NamesEach bytes read → read ≡ Err (cert_fault.Format s) → IsRefusal bytes f
    → refusal.Format s ≡ f
refusal-named each names is (NoShape t fault) = ap refusal.Format (⊎_elim (λ named. cc) (λ none. absurd (cc)) (names t fault))
refusal-named each names is (Unmet d f text h) = ⊎_elim (λ same. absurd (cc)) (λ none. absurd (cc)) (each d text)
