-- The conditions on a certificate. If a certificate meets all of them, each of its verdicts is true. Most conditions
-- concern evidence of one kind only; a certificate without this evidence meets them.
use Rattle.std.specs.Prelude.{◌≡◌, ◌≢◌, ℕ, ◌^◌, ◌≤◌, List, [], ◌∷◌, length, slice_index, Contains, ℤ, ⊤}
use Rattle.word_image.specs.LocalRules.{word_of}
use Rattle.word_image.specs.Rings.{ring_image}
use Rattle.word_image.specs.Graphs.{full_set, first_of, second_of, pair_count}
use Rattle.tail_config.specs.Tails.{TailConfig, Different, ShareImage}
use Rattle.cert_values.specs.Evidence.{SurjectiveEvidence, InjectiveEvidence, SideEvidence, SumEvidence, Sets, Pairs, Orphan, Window, Twins, Ahead, Split, Flux, Ring}
use Rattle.cert_values.specs.Certificates.{Certificate}
use Rattle.cert_conditions.specs.declared.condition.Condition.{Condition}
use Rattle.cert_conditions.specs.declared.condition.Condition.TheVariants.{SideClaims, FullListed, NoneEmpty, Closed, FirstsListed, OffDiagonal, PairsClosed, OrphanRead, WindowClaims, TwinsAlike, SideAhead, SideSplit, FluxFlows, RingLossy}
use Rattle.word_image.specs.declared.side.Side.TheVariants.{Right, Left}
use Rattle.word_image.specs.FirstPairs.{IsFirstOf}
use Rattle.cert_conditions.specs.Breaches.{EachBelow}
use Rattle.cert_conditions.specs.Claims.{Falls, IsWindowPair, IsAheadPair}
use Rattle.cert_conditions.specs.Sets.{StepIsKept, LeadsTo}
use Rattle.cert_conditions.specs.Pairs.{FirstIsListed, StepsAreListed}
use Rattle.cert_conditions.specs.Sides.{AgreeBehind, claims_on, evidence_on}
use Rattle.cert_conditions.specs.Sums.{Flows, IsLossy}

-- all conditions, in the order in which the judge checks them
abbrev pub conditions : List Condition
conditions =
    SideClaims Right ∷ SideClaims Left ∷ FullListed ∷ NoneEmpty ∷ Closed ∷ FirstsListed ∷ OffDiagonal ∷ PairsClosed ∷ OrphanRead ∷ WindowClaims ∷ TwinsAlike ∷ SideAhead Right ∷ SideSplit Right ∷ SideAhead Left ∷ SideSplit Left ∷ FluxFlows ∷ RingLossy ∷ []

-- if the evidence lists sets, P holds for the list
abbrev pub OfSets : SurjectiveEvidence → (List ℕ → Type 0) → Type 0
OfSets (Sets sets) P = P sets
OfSets (Pairs pairs) P = ⊤
OfSets (Orphan w) P = ⊤

-- if the evidence lists pairs, P holds for the list
abbrev pub OfPairs : SurjectiveEvidence → (List ℕ → Type 0) → Type 0
OfPairs (Sets sets) P = ⊤
OfPairs (Pairs pairs) P = P pairs
OfPairs (Orphan w) P = ⊤

-- if the evidence is an orphan, P holds for it
abbrev pub OfOrphan : SurjectiveEvidence → (List ℕ → Type 0) → Type 0
OfOrphan (Sets sets) P = ⊤
OfOrphan (Pairs pairs) P = ⊤
OfOrphan (Orphan w) P = P w

-- if the evidence is a window, P holds for it
abbrev pub OfWindow : InjectiveEvidence → (ℕ → ℕ → Type 0) → Type 0
OfWindow (Window n c) P = P n c
OfWindow (Twins x y) P = ⊤

-- if the evidence is twins, P holds for them
abbrev pub OfTwins : InjectiveEvidence → (List ℕ → List ℕ → Type 0) → Type 0
OfTwins (Window n c) P = ⊤
OfTwins (Twins x y) P = P x y

-- if the evidence is a look-ahead, P holds for it
abbrev pub OfAhead : SideEvidence → (ℕ → Type 0) → Type 0
OfAhead (Ahead n) P = P n
OfAhead (Split x y) P = ⊤

-- if the evidence is a split, P holds for it
abbrev pub OfSplit : SideEvidence → (TailConfig → TailConfig → Type 0) → Type 0
OfSplit (Ahead n) P = ⊤
OfSplit (Split x y) P = P x y

-- if the evidence is a flux, P holds for it
abbrev pub OfFlux : SumEvidence → (List ℤ → Type 0) → Type 0
OfFlux (Flux phi) P = P phi
OfFlux (Ring p) P = ⊤

-- if the evidence is a ring, P holds for it
abbrev pub OfRing : SumEvidence → (List ℕ → Type 0) → Type 0
OfRing (Flux phi) P = ⊤
OfRing (Ring p) P = P p

-- the certificate meets the condition
abbrev pub Holds : Certificate → Condition → Type 0
Holds c (SideClaims side) = EachBelow (pair_count c.rule) (Falls side c.rule (claims_on c side))
Holds c FullListed = OfSets c.surjective (λ sets. Contains sets (full_set c.rule))
Holds c NoneEmpty = OfSets c.surjective (λ sets. EachBelow (length sets) (λ i. slice_index sets i ≢ 0))
Holds c Closed = OfSets c.surjective (λ sets. EachBelow (length sets) (λ i. EachBelow c.rule.states (StepIsKept c.version c.rule sets (slice_index sets i))))
Holds c FirstsListed = OfPairs c.surjective (λ pairs. EachBelow (pair_count c.rule) (FirstIsListed c.rule pairs))
Holds c OffDiagonal = OfPairs c.surjective (λ pairs. EachBelow (length pairs) (λ i. first_of c.rule (slice_index pairs i) ≢ second_of c.rule (slice_index pairs i)))
Holds c PairsClosed = OfPairs c.surjective (λ pairs. EachBelow (length pairs) (λ i. StepsAreListed c.rule pairs (slice_index pairs i)))
Holds c OrphanRead = OfOrphan c.surjective (λ w. LeadsTo c.rule (full_set c.rule) w 0)
Holds c WindowClaims = OfWindow c.injective (λ n at. EachBelow (pair_count c.rule) (IsWindowPair c.rule c.forward c.backward n at))
Holds c TwinsAlike = OfTwins c.injective (λ x y. ((length x ≡ length y) × (1 ≤ length x)) × (x ≢ y) × (ring_image c.rule x ≡ ring_image c.rule y))
Holds c (SideAhead side) = OfAhead (evidence_on c side) (λ n. EachBelow (pair_count c.rule) (IsAheadPair (IsFirstOf side c.rule) (claims_on c side) n))
Holds c (SideSplit side) = OfSplit (evidence_on c side) (λ x y. Different x y × AgreeBehind side x y × ShareImage c.rule x y)
Holds c FluxFlows = OfFlux c.conserving (λ phi. EachBelow (c.rule.states ^ c.rule.width) (λ v. Flows (slice_index c.weights) c.rule phi (word_of c.rule.states c.rule.width v)))
Holds c RingLossy = OfRing c.conserving (IsLossy (slice_index c.weights) c.rule)

-- the certificate meets all conditions
abbrev pub MeetsConditions : Certificate → Type 0
MeetsConditions c = (condition : Condition) → Holds c condition
