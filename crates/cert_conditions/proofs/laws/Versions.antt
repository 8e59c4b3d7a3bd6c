-- What meets the conditions in one version meets them in a later one.
use Rattle.std.proofs.Common.{ℕ, List, length, slice_index}
use Rattle.word_image.proofs.Common.{LocalRule}
use Rattle.word_image.specs.declared.side.Side.TheVariants.{Right, Left}
use Rattle.cert_values.specs.declared.cert_version.CertVersion.{CertVersion}
use Rattle.cert_values.proofs.Common.{SurjectiveEvidence, Certificate, Sets}
use Rattle.cert_conditions.specs.declared.condition.Condition.TheVariants.{SideClaims, Closed, SideAhead, SideSplit}
use Rattle.cert_conditions.specs.Breaches.{EachBelow}
use Rattle.cert_conditions.specs.Sets.{HasPart, IsKept, StepIsKept}
use Rattle.cert_conditions.specs.Conditions.{MeetsConditions, OfSets}
use Rattle.cert_conditions.specs.CertificateVersions.{in_version}
use Rattle.cert_conditions.proofs.laws.StepConditions.{HasPart-kept}

-- what is asked of the steps in some version is enough for one in which a listed set within each is
closed-later : (version later : CertVersion) → ((sets : List ℕ) (set : ℕ) → HasPart sets set → IsKept later sets set)
    → (r : LocalRule) (e : SurjectiveEvidence)
    → OfSets e (λ sets. EachBelow (length sets) (λ i. EachBelow r.states (StepIsKept version r sets (slice_index sets i))))
    → OfSets e (λ sets. EachBelow (length sets) (λ i. EachBelow r.states (StepIsKept later r sets (slice_index sets i))))
closed-later version later enough r (Sets sets) closed = λ i within a letter. let (after, step, kept) = closed i within a letter in (after, step, enough sets after (HasPart-kept version sets after kept))
closed-later version later enough r _ closed = tt

-- what meets the conditions in its version meets them as such a one
pub MeetsConditions-later : (later : CertVersion) → ((sets : List ℕ) (set : ℕ) → HasPart sets set → IsKept later sets set) → (c : Certificate)
    → MeetsConditions c → MeetsConditions (in_version later c)
MeetsConditions-later later enough c meets (SideClaims Right) = meets (SideClaims Right)
MeetsConditions-later later enough c meets (SideClaims Left) = meets (SideClaims Left)
MeetsConditions-later later enough c meets Closed = closed-later c.version later enough c.rule c.surjective (meets Closed)
MeetsConditions-later later enough c meets (SideAhead Right) = meets (SideAhead Right)
MeetsConditions-later later enough c meets (SideSplit Right) = meets (SideSplit Right)
MeetsConditions-later later enough c meets (SideAhead Left) = meets (SideAhead Left)
MeetsConditions-later later enough c meets (SideSplit Left) = meets (SideSplit Left)
MeetsConditions-later later enough c meets one = meets one
