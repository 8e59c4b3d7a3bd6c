-- The judge is the part of the program that checks certificates. A certificate is evidence about a rule, as JSON text.
-- This file defines which bytes the judge accepts, with which verdicts, and when the verdicts are true.
use Rattle.std.specs.Prelude.{◌≡◌, ℕ, ◌↔◌, Bool, ◌&&◌, IsTrue, List, slice_index}
use Rattle.word_image.specs.Words.{IsSurjective}
use Rattle.word_image.specs.Rings.{IsConserving}
use Rattle.tail_config.specs.Tails.{IsInjective, IsRightClosing, IsLeftClosing}
use Rattle.cert_values.specs.Evidence.{says_surjective, says_injective, says_closing, says_conserving}
use Rattle.cert_values.specs.Certificates.{Certificate}
use Rattle.cert_values.specs.CertificateTexts.{IsCertificateText}
use Rattle.cert_conditions.specs.declared.verdicts.Verdicts.{Verdicts}
use Rattle.cert_conditions.specs.Conditions.{MeetsConditions}

-- the verdicts of a certificate: yes or no for each property, as its evidence says
abbrev pub verdicts_of : Certificate → Verdicts
verdicts_of c = record {
  rule = c.rule;
  weights = c.weights;
  surjective = says_surjective c.surjective;
  injective = says_injective c.injective;
  right = says_closing c.right;
  left = says_closing c.left;
  conserving = says_conserving c.conserving;
}

-- whether the verdicts say that the rule is open: they say so if it is right-closing and left-closing
abbrev pub is_open : Verdicts → Bool
is_open v = v.right && v.left

-- the judge accepts the bytes with the verdicts v: they are the text of a certificate that meets all conditions and has these verdicts
pub record IsAccepted (bytes : List ℕ) (v : Verdicts) : Type 0 where
  pub certificate : Certificate
  pub text : IsCertificateText bytes certificate
  pub meets : MeetsConditions certificate
  pub verdicts : v ≡ verdicts_of certificate

-- each verdict is yes if and only if the rule has the property; the verdict on conservation uses the weights in v
pub record AreTrue (v : Verdicts) : Type 0 where
  pub surjective : IsTrue v.surjective ↔ IsSurjective v.rule
  pub injective : IsTrue v.injective ↔ IsInjective v.rule
  pub right : IsTrue v.right ↔ IsRightClosing v.rule
  pub left : IsTrue v.left ↔ IsLeftClosing v.rule
  pub open_ : IsTrue (is_open v) ↔ (IsRightClosing v.rule × IsLeftClosing v.rule)
  pub conserving : IsTrue v.conserving ↔ IsConserving (slice_index v.weights) v.rule
