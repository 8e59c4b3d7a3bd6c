-- The code has types of its own for the parts of a certificate. This file says which evidence and which certificate
-- their values represent, and defines the limits of all parts of a certificate.
use Rattle.std.specs.Prelude.{◌≡◌, ℕ, ⊤, List, false}
use Rattle.word_image.specs.LocalRules.{IsRule, LocalRule}
use Rattle.cert_values.specs.declared.parts.SurjectivePart.{SurjectivePart}
use Rattle.cert_values.specs.declared.parts.SurjectivePart.TheVariants.{Sets, Pairs, Orphan}
use Rattle.cert_values.specs.declared.parts.InjectivePart.{InjectivePart}
use Rattle.cert_values.specs.declared.parts.InjectivePart.TheVariants.{Window, Twins}
use Rattle.cert_values.specs.declared.parts.SidePart.{SidePart}
use Rattle.cert_values.specs.declared.parts.SidePart.TheVariants.{Ahead, Split}
use Rattle.cert_values.specs.declared.parts.SumPart.{SumPart}
use Rattle.cert_values.specs.declared.parts.SumPart.TheVariants.{Flux, Ring}
use Rattle.cert_values.specs.declared.cert.Cert.TheInside.{Inside}
use Rattle.cert_values.specs.Evidence.{SurjectiveEvidence, InjectiveEvidence, SideEvidence, SumEvidence}
use Rattle.cert_values.specs.Certificates.{Certificate, IsSurjectiveShape, IsInjectiveShape, IsSideShape, IsSumShape, IsRankShape}
use Rattle.word_image.specs.Weights.{AreWeights, own_weights}
use Rattle.cert_values.specs.declared.cert_version.CertVersion.{CertVersion}
use Rattle.cert_values.specs.Versions.{names_weights}

-- the evidence that a value of the code represents, for each kind of evidence
abbrev pub surjective_of : SurjectivePart → SurjectiveEvidence
surjective_of (Sets sets) = SurjectiveEvidence.Sets sets
surjective_of (Pairs pairs) = SurjectiveEvidence.Pairs pairs
surjective_of (Orphan w) = SurjectiveEvidence.Orphan w

abbrev pub injective_of : InjectivePart → InjectiveEvidence
injective_of (Window n c) = InjectiveEvidence.Window n c
injective_of (Twins x y) = InjectiveEvidence.Twins x y

abbrev pub side_of : SidePart → SideEvidence
side_of (Ahead n) = SideEvidence.Ahead n
side_of (Split x y) = SideEvidence.Split x.config y.config

abbrev pub sum_of : SumPart → SumEvidence
sum_of (Flux phi) = SumEvidence.Flux phi
sum_of (Ring p) = SumEvidence.Ring p

-- the certificate that a value of the code represents
abbrev pub certificate_of : Inside → Certificate
certificate_of c = record {
  version = c.version;
  rule = c.rule;
  surjective = surjective_of c.surjective;
  injective = injective_of c.injective;
  right = side_of c.right;
  left = side_of c.left;
  conserving = sum_of c.conserving;
  weights = c.weights;
  forward = c.forward;
  backward = c.backward;
}

-- if the part has two configurations, both of them have k states
abbrev pub IsOver : ℕ → SidePart → Type 0
IsOver k (Ahead n) = ⊤
IsOver k (Split x y) = (x.states ≡ k) × (y.states ≡ k)

-- there is a weight for each letter; in version 1, which has no weights, each letter weighs its own value
pub record IsWeightShape (version : CertVersion) (r : LocalRule) (weights : List ℕ) : Type 0 where
  pub each : AreWeights r.states weights
  pub own : names_weights version ≡ false → weights ≡ own_weights r.states

-- the certificate is within the limits of its rule and of all its parts
pub record IsShaped (c : Certificate) : Type 0 where
  pub rule : IsRule c.rule
  pub surjective : IsSurjectiveShape c.version c.rule c.surjective
  pub injective : IsInjectiveShape c.rule c.injective
  pub right : IsSideShape c.rule c.right
  pub left : IsSideShape c.rule c.left
  pub conserving : IsSumShape c.rule c.conserving
  pub weights : IsWeightShape c.version c.rule c.weights
  pub forward : IsRankShape c.rule c.forward
  pub backward : IsRankShape c.rule c.backward
