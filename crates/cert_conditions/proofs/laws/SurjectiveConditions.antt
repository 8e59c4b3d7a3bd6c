-- What is said of surjectivity by listed sets, listed pairs or an orphan is true where its conditions are met.
use Rattle.std.proofs.Common.{◌≢◌, length, slice_index, Contains, refl, ◌↔◌, IsTrue}
use Rattle.word_image.proofs.Common.{false≢true, LocalRule, IsRule, IsSurjective, full_set, first_of, second_of, pair_count, IsOrphan-not_surjective}
use Rattle.garden_laws.proofs.ReachedPairs.{IsSurjective-pair_list}
use Rattle.cert_values.specs.declared.cert_version.CertVersion.{CertVersion}
use Rattle.cert_values.proofs.Common.{SurjectiveEvidence, IsSurjectiveShape, Sets, Pairs, Orphan}
use Rattle.cert_conditions.specs.Breaches.{EachBelow}
use Rattle.cert_conditions.specs.Sets.{StepIsKept, LeadsTo}
use Rattle.cert_conditions.specs.Pairs.{FirstIsListed, StepsAreListed}
use Rattle.cert_conditions.specs.Conditions.{OfSets, OfPairs, OfOrphan}
use Rattle.cert_values.specs.Evidence.{says_surjective}
use Rattle.cert_conditions.proofs.laws.PairConditions.{IsPairList-met}
use Rattle.cert_conditions.proofs.laws.StepConditions.{IsSurjective-sets, IsOrphan-read}

-- what is said of surjectivity is true where its conditions are met
pub IsSurjective-said : {r : LocalRule} → IsRule r → (version : CertVersion) (e : SurjectiveEvidence) → IsSurjectiveShape version r e
    → OfSets e (λ sets. Contains sets (full_set r))
    → OfSets e (λ sets. EachBelow (length sets) (λ i. slice_index sets i ≢ 0))
    → OfSets e (λ sets. EachBelow (length sets) (λ i. EachBelow r.states (StepIsKept version r sets (slice_index sets i))))
    → OfPairs e (λ pairs. EachBelow (pair_count r) (FirstIsListed r pairs))
    → OfPairs e (λ pairs. EachBelow (length pairs) (λ i. first_of r (slice_index pairs i) ≢ second_of r (slice_index pairs i)))
    → OfPairs e (λ pairs. EachBelow (length pairs) (λ i. StepsAreListed r pairs (slice_index pairs i)))
    → OfOrphan e (λ w. LeadsTo r (full_set r) w 0) → IsTrue (says_surjective e) ↔ IsSurjective r
IsSurjective-said rule version (Sets sets) shape full some closed firsts apart steps read = ((λ _. IsSurjective-sets version rule sets full some closed), (λ _. refl))
IsSurjective-said rule version (Pairs pairs) shape full some closed firsts apart steps read = ((λ _. IsSurjective-pair_list rule (IsPairList-met rule pairs shape.1 firsts apart steps)), (λ _. refl))
IsSurjective-said rule version (Orphan w) shape full some closed firsts apart steps read =
    ((λ no. absurd (false≢true no)), (λ surjective. absurd (IsOrphan-not_surjective (IsOrphan-read rule shape read) surjective)))
