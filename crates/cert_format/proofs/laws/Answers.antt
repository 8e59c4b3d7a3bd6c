-- Bytes have one answer, if there is memory.
use Rattle.std.proofs.Common.{◌≡◌, ap, ◌∙◌, List, ℕ, ◌⊎◌, inl, inr, Result, Ok, Err, IfOk, IfErr, alloc_error}
use Rattle.cert_values.specs.declared.shape_fault.ShapeFault.{ShapeFault}
use Rattle.cert_format.specs.declared.cert_fault.CertFault.{CertFault}
use Rattle.cert_format.specs.declared.cert_fault.CertFault.TheVariants as fault
use Rattle.cert_values.specs.Certificates.{Certificate}
use Rattle.cert_values.specs.CertificateTexts.{IsCertificateText}
use Rattle.cert_values.specs.ShapeFaults.{IsShapeFault}
use Rattle.cert_format.specs.Readings.{IsCertFault}
use Rattle.cert_values.proofs.laws.Uniqueness.{IsCertificateText-unique}
use Rattle.cert_values.proofs.laws.ShapeFaults.{IsCertificateText-no_fault, IsShapeFault-unique}

-- a certificate is the only answer to its text, where there is memory
pub every_cert : (bytes : List ℕ) (answer : Result Certificate CertFault) → IfOk answer (IsCertificateText bytes) → IfErr answer (IsCertFault bytes)
    → (c : Certificate) → IsCertificateText bytes c
    → (answer ≡ Ok c) ⊎ (answer ≡ Err (fault.Memory alloc_error))
every_cert bytes (Ok d) cert wrong c text = inl (ap Ok (IsCertificateText-unique cert text))
every_cert bytes (Err f) cert (inl memory) c text = inr (ap Err memory)
every_cert bytes (Err f) cert (inr wrong) c text = absurd (IsCertificateText-no_fault text wrong.2)

-- a first fault is the only answer to its text, where there is memory
pub every_cert_fault : (bytes : List ℕ) (answer : Result Certificate CertFault) → IfOk answer (IsCertificateText bytes)
    → IfErr answer (IsCertFault bytes) → (s : ShapeFault) → IsShapeFault bytes s
    → (answer ≡ Err (fault.Format s)) ⊎ (answer ≡ Err (fault.Memory alloc_error))
every_cert_fault bytes (Ok c) cert wrong s first = absurd (IsCertificateText-no_fault cert first)
every_cert_fault bytes (Err f) cert (inl memory) s first = inr (ap Err memory)
every_cert_fault bytes (Err f) cert (inr wrong) s first = inl (ap Err (wrong.1 ∙ ap fault.Format (IsShapeFault-unique wrong.2 first)))
