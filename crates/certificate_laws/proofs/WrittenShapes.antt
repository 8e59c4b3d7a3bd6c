-- What is written for a rule has the shape of a certificate.
use Rattle.std.proofs.Common.{◌≡◌, ◌∙◌, ℕ, List, true, sym, subst, arith, rules}
use Rattle.word_image.proofs.Common.{false≢true, length-reverse, LocalRule, IsRule, AreWeights, BeginTogether, EndTogether, IsRule-mirrored}
use Rattle.word_image.specs.declared.side.Side.TheVariants.{Right, Left}
use Rattle.pair_laws.proofs.Common.{IsRank-below}
use Rattle.tail_config.proofs.Common.{TailConfig, mirror_of, IsShortTail, IsLeastRightSplit, IsTail-mirror}
use Rattle.cert_values.specs.declared.cert_version.CertVersion.{CertVersion}
use Rattle.cert_values.proofs.Common.{names_weights, SideEvidence, Certificate, IsSideShape, IsShaped, Ahead, Split}
use Rattle.certificate_laws.specs.LeastEvidence.{IsRightPart, IsLeftPart}
use Rattle.certificate_laws.specs.WrittenCertificates.{HasWrittenParts}
use Rattle.certificate_laws.proofs.ShortSplits.{IsLeastRightSplit-le}
use Rattle.certificate_laws.proofs.Limits.{IsSurjectiveShape-written, IsInjectiveShape-written, IsSideShape-ahead, IsSumShape-written, IsRankShape-exact}

-- the least normal right split is of short configurations
IsSideShape-split : {r : LocalRule} {x y : TailConfig} → IsRule r → IsLeastRightSplit r x y → IsSideShape r (Split x y)
IsSideShape-split rule least = grind (arith, IsLeastRightSplit-le)

-- read backwards a short configuration is short
IsShortTail-mirror : {k : ℕ} {t : TailConfig} → IsShortTail k t → IsShortTail k (mirror_of t)
IsShortTail-mirror short = search (rules, length-reverse, IsTail-mirror)

-- the part of the right is within its limits
IsSideShape-right : {r : LocalRule} → IsRule r → (e : SideEvidence) → IsRightPart r e → IsSideShape r e
IsSideShape-right rule (Ahead n) part = IsSideShape-ahead rule part.1
IsSideShape-right rule (Split x y) part = IsSideShape-split rule part.1

-- the part of the left is within its limits
IsSideShape-left : {r : LocalRule} → IsRule r → (e : SideEvidence) → IsLeftPart r e → IsSideShape r e
IsSideShape-left rule (Ahead n) part = IsSideShape-ahead (IsRule-mirrored rule) part.1
IsSideShape-left {r} rule (Split x y) part =
    let least = part.1 in
    let shape = IsSideShape-split {x = least.first} {y = least.second} (IsRule-mirrored rule) least.right in
    (subst (IsShortTail r.states) (sym least.x_is) (IsShortTail-mirror shape.0), subst (IsShortTail r.states) (sym least.y_is) (IsShortTail-mirror shape.1))

-- with the evidence that is written for its own rule, in a version that names weights, it has the shape of a certificate
IsShaped-own : {c : Certificate} → names_weights c.version ≡ true → IsRule c.rule → AreWeights (c.rule).states c.weights
    → HasWrittenParts c.version c.rule c.weights c → IsShaped c
IsShaped-own {c} names rule are parts =
    record {
      rule = rule;
      surjective = IsSurjectiveShape-written c.version rule c.surjective parts.least.surjective parts.list;
      injective = IsInjectiveShape-written rule c.injective parts.least.injective;
      right = IsSideShape-right rule c.right parts.least.right;
      left = IsSideShape-left rule c.left parts.least.left;
      conserving = IsSumShape-written rule are c.conserving parts.least.conserving;
      weights = record { each = are; own = λ none. absurd (false≢true (sym none ∙ names)) };
      forward = IsRankShape-exact (BeginTogether c.rule) rule (λ u v n rank. IsRank-below Right rule u v n rank) parts.forward;
      backward = IsRankShape-exact (EndTogether c.rule) rule (λ u v n rank. IsRank-below Left rule u v n rank) parts.backward;
    }

-- what is written for a rule has the shape of a certificate
pub IsShaped-written : {version : CertVersion} {r : LocalRule} {weights : List ℕ} {c : Certificate} → names_weights version ≡ true → IsRule r
    → AreWeights r.states weights
    → HasWrittenParts version r weights c → IsShaped c
IsShaped-written names rule are parts = grind (arith, IsShaped-own)
