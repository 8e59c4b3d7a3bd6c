-- What is written for a rule is accepted, so it is the certificate that is written.
use Rattle.std.proofs.Common.{◌≡◌, List, ℕ, true, refl, arith}
use Rattle.word_image.proofs.Common.{LocalRule, IsRule, AreWeights}
use Rattle.cert_values.specs.declared.cert_version.CertVersion.{CertVersion}
use Rattle.cert_values.proofs.Common.{names_weights, Certificate, IsCertificateText, certificate_text}
use Rattle.certificate_laws.specs.WrittenCertificates.{HasWrittenParts, IsWritten}
use Rattle.certificate_laws.proofs.MetConditions.{MeetsConditions-own}
use Rattle.certificate_laws.proofs.ShortTexts.{short-own}
use Rattle.certificate_laws.proofs.TextsReadBack.{IsCertificateText-own}
use Rattle.certificate_laws.proofs.WrittenShapes.{IsShaped-written}

-- a certificate with the written parts whose text is read back is the one that is written for the rule
pub IsWritten-read_back : {version : CertVersion} {r : LocalRule} {weights : List ℕ} {c : Certificate} {bytes : List ℕ} → names_weights version ≡ true
    → IsRule r → AreWeights r.states weights
    → HasWrittenParts version r weights c → bytes ≡ certificate_text c → IsCertificateText bytes c → IsWritten version r weights c
IsWritten-read_back {c = c} names rule are parts written text = grind (arith, short-own, MeetsConditions-own)

-- what has the parts, of an accepted rule and weights of its letters, is the certificate that is written: its text is read back
pub IsWritten-parts : {version : CertVersion} {r : LocalRule} {weights : List ℕ} {c : Certificate} → names_weights version ≡ true → IsRule r
    → AreWeights r.states weights
    → HasWrittenParts version r weights c → IsWritten version r weights c
IsWritten-parts names rule are parts = IsWritten-read_back names rule are parts refl (IsCertificateText-own (IsShaped-written names rule are parts))
