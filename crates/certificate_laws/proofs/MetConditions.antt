-- What is written for a rule and weights meets the conditions of the judge: the cover list, the reached pairs or an orphan, the exact ranks, and the least evidence of each other part.
use Rattle.std.proofs.Common.{◌≢◌, ℕ, get_or, ◌^◌, List, [], length, slice_index, Contains, Option, refl, sym, subst, subst₂, ⊎_elim, arith}
use Rattle.word_image.proofs.Common.{paired_at, AllZip, Contains-get_or, LocalRule, IsRule, word_of, IsSurjective, full_set, first_of, second_of, pair_count, IsFirstOfRight, IsFirstOfLeft, IsFamily, IsLeastWordOf, covers_of, IsLastSet, BeginTogether, EndTogether, IsOrphan-empty_set, IsOrphan-not_surjective}
use Rattle.word_image.specs.declared.side.Side.TheVariants as side
use Rattle.garden_laws.proofs.ReachedPairs.{IsPairList-reached}
use Rattle.tail_config.proofs.Common.{AgreeLeft, AgreeRight}
use Rattle.tail_laws.proofs.Common.{IsLeftSplit-least}
use Rattle.cert_values.specs.declared.cert_version.CertVersion.{CertVersion}
use Rattle.cert_values.specs.declared.cert_version.CertVersion.TheVariants.{One, Two}
use Rattle.cert_values.proofs.Common.{SurjectiveEvidence, InjectiveEvidence, SideEvidence, SumEvidence, Certificate, Sets, Pairs, Orphan, Window, Twins, Ahead, Split, Flux, Ring}
use Rattle.cert_conditions.specs.declared.condition.Condition.TheVariants.{SideClaims, FullListed, NoneEmpty, Closed, FirstsListed, OffDiagonal, PairsClosed, OrphanRead, WindowClaims, TwinsAlike, SideAhead, SideSplit, FluxFlows, RingLossy}
use Rattle.cert_conditions.proofs.Common.{claim, EachBelow, StepIsKept, LeadsTo, FirstIsListed, StepsAreListed, IsWindowPair, IsAheadPair, Flows, IsLossy, MeetsConditions, OfSets, OfPairs, OfOrphan, OfWindow, OfTwins, OfAhead, OfSplit, OfFlux, OfRing, AreLastSets, Contains-full, nonempty-last_sets, StepIsKept-last_sets, LeadsTo-orphan}
use Rattle.cert_conditions.proofs.laws.StepConditions.{at_listed}
use Rattle.cert_conditions.proofs.laws.WindowFlows.{Flows-value}
use Rattle.pair_laws.proofs.Claims.{FallsOn-ranks}
use Rattle.pair_laws.proofs.Common.{IsClaimedApart-ranks, ahead-ranks}
use Rattle.ring_laws.proofs.FluxWindows.{FlowsAt-flux}
use Rattle.cert_conditions.proofs.laws.ClaimConditions.{AreSplit, AreAlike}
use Rattle.certificate_laws.proofs.CoverLists.{Contains-covers, HasCover-listed}
use Rattle.certificate_laws.proofs.PairLists.{pair_list-met}
use Rattle.certificate_laws.specs.LeastEvidence.{IsOrphanPart, IsInjectivePart, IsRightPart, IsLeftPart, IsConservingPart}
use Rattle.certificate_laws.specs.WrittenCertificates.{orphan_of, IsListPart, IsRankRow, HasWrittenParts}

-- each set of a family is the last nodes of a word
pub IsLastSet-each : (r : LocalRule) (sets : List ℕ) (words : List (List ℕ)) → AllZip (IsLeastWordOf r) sets words → (set : ℕ) → Contains sets set
    → (w : List ℕ) × IsLastSet r w set
IsLastSet-each r sets words each set (i, l, same) = (get_or words i [], subst (IsLastSet r (get_or words i [])) same (paired_at (IsLeastWordOf r) sets words i set [] each l).set_of)

-- the family of a surjective rule has the last nodes of each word
pub AreLastSets-family : {r : LocalRule} {sets : List ℕ} → IsSurjective r → IsFamily r sets → AreLastSets r sets
AreLastSets-family {r} {sets} surjective family =
    record {
      each = IsLastSet-each r sets family.words family.each;
      all = λ w set last. ⊎_elim (λ listed. listed) (λ late. absurd (IsOrphan-not_surjective (IsOrphan-empty_set late.1) surjective)) (family.all w set last);
    }

-- a fact of each set of the family is one of each set of its cover list
each_cover : (P : ℕ → Type 0) (full : ℕ) (family : List ℕ) → Contains family full → ((set : ℕ) → Contains family set → P set)
    → EachBelow (length (covers_of full family)) (λ i. P (slice_index (covers_of full family) i))
each_cover P full family there each i l = each _ (Contains-covers full family there _ (Contains-get_or (covers_of full family) i 0 l))

-- each step from a set of the family contains a set of the cover list
StepIsKept-covers : (r : LocalRule) (full : ℕ) (family : List ℕ)
    → ((set : ℕ) → Contains family set → EachBelow r.states (StepIsKept One r family set))
    → (set : ℕ) → Contains family set → EachBelow r.states (StepIsKept Two r (covers_of full family) set)
StepIsKept-covers r full family steps set listed a letter =
    let (after, step, there) = steps set listed a letter in
    let within = HasCover-listed full family after there in
    (after, step, (within.cover, within.listed, within.part))

-- what is asked of sets, of pairs and of an orphan
abbrev SurjectiveMet : CertVersion → LocalRule → SurjectiveEvidence → Type 0
SurjectiveMet version r e =
    OfSets e (λ sets. Contains sets (full_set r)) × OfSets e (λ sets. EachBelow (length sets) (λ i. slice_index sets i ≢ 0))
    × OfSets e (λ sets. EachBelow (length sets) (λ i. EachBelow r.states (StepIsKept version r sets (slice_index sets i))))
    × OfPairs e (λ pairs. EachBelow (pair_count r) (FirstIsListed r pairs)) × OfPairs e (λ pairs. EachBelow (length pairs) (λ i. first_of r (slice_index pairs i) ≢ second_of r (slice_index pairs i)))
    × OfPairs e (λ pairs. EachBelow (length pairs) (λ i. StepsAreListed r pairs (slice_index pairs i))) × OfOrphan e (λ w. LeadsTo r (full_set r) w 0)

-- the cover list has the full set, no empty one, and a set within each step; the reached pairs are a pair list; the orphan leads to
-- the empty set
surjective-met : (version : CertVersion) {r : LocalRule} → IsRule r → (e : SurjectiveEvidence) → IsOrphanPart r (orphan_of e) → IsListPart version r e
    → SurjectiveMet version r e
surjective-met version {r} rule (Sets sets) surjective (two, (family, is, same)) =
    let last = AreLastSets-family surjective is in
    let full = full_set r in
    let there = Contains-full last in
    let some = λ (set : ℕ) (listed : Contains family set). at_listed (λ s. s ≢ 0) family (nonempty-last_sets surjective last) set listed in
    let kept = StepIsKept-covers r full family (at_listed (λ s. EachBelow r.states (StepIsKept One r family s)) family (StepIsKept-last_sets rule last)) in
    let met : SurjectiveMet Two r (Sets (covers_of full family)) = (
      (0, omega arith, refl),
      each_cover (λ s. s ≢ 0) full family there some,
      each_cover (λ s. EachBelow r.states (StepIsKept Two r (covers_of full family) s)) full family there kept,
      tt,
      tt,
      tt,
      tt,
    ) in
    subst₂ (λ v xs. SurjectiveMet v r (Sets xs)) (sym two) (sym same) met
surjective-met version rule (Pairs pairs) surjective (three, reached) = let met = pair_list-met (IsPairList-reached rule surjective reached.exactly) in (tt, tt, tt, met.0, met.1, met.2, tt)
surjective-met version rule (Orphan w) least list = (tt, tt, tt, tt, tt, tt, LeadsTo-orphan rule least.orphan)

-- the window is claimed of each pair; the twins are alike
injective-met : {r : LocalRule} → IsRule r → (e : InjectiveEvidence) (forward backward : List (Option ℕ)) → IsRankRow r (BeginTogether r) forward
    → IsRankRow r (EndTogether r) backward
    → IsInjectivePart r e → OfWindow e (λ n c. EachBelow (pair_count r) (IsWindowPair r forward backward n c)) × OfTwins e (AreAlike r)
injective-met rule (Window n c) forward backward ranks back part =
    (IsClaimedApart-ranks rule (claim forward) (claim backward) ranks.ranks back.ranks n c part.1.determined, tt)
injective-met rule (Twins x y) forward backward ranks back part = let twins = part.1.twins in (tt, ((twins.one_length, twins.first.some), twins.different, twins.one_image))

-- the right look-ahead is claimed of each first pair; the right split is one
right-met : {r : LocalRule} → IsRule r → (e : SideEvidence) (forward : List (Option ℕ)) → IsRankRow r (BeginTogether r) forward → IsRightPart r e
    → OfAhead e (λ n. EachBelow (pair_count r) (IsAheadPair (IsFirstOfRight r) forward n)) × OfSplit e (AreSplit AgreeLeft r)
right-met rule (Ahead n) forward ranks part = ((λ p l first. ahead-ranks side.Right rule (claim forward) ranks.ranks n part.1.ahead p first), tt)
right-met rule (Split x y) forward ranks part = let split = part.1.split.split in (tt, (split.different, split.agree, split.share))

-- the left look-ahead is claimed of each first pair of the left; the left split is one
left-met : {r : LocalRule} → IsRule r → (e : SideEvidence) (backward : List (Option ℕ)) → IsRankRow r (EndTogether r) backward → IsLeftPart r e
    → OfAhead e (λ n. EachBelow (pair_count r) (IsAheadPair (IsFirstOfLeft r) backward n)) × OfSplit e (AreSplit AgreeRight r)
left-met rule (Ahead n) backward back part = ((λ p l first. ahead-ranks side.Left rule (claim backward) back.ranks n part.1.ahead p first), tt)
left-met rule (Split x y) backward back part = let split = IsLeftSplit-least rule part.1 in (tt, (split.different, split.agree, split.share))

-- the flux flows on each window; the ring is lossy
conserving-met : (weight : ℕ → ℕ) {r : LocalRule} → IsRule r → (e : SumEvidence) → IsConservingPart weight r e
    → OfFlux e (λ phi. EachBelow (r.states ^ r.width) (λ v. Flows weight r phi (word_of r.states r.width v))) × OfRing e (IsLossy weight r)
conserving-met weight rule (Flux phi) part = ((λ v l. (Flows-value rule weight phi v l).0 (FlowsAt-flux rule part.1 v l)), tt)
conserving-met weight rule (Ring p) part = (tt, (part.1.lossy.ring.some, part.1.lossy.loses))

-- a certificate with the evidence that is written for its own rule meets the conditions
pub MeetsConditions-own : {c : Certificate} → IsRule c.rule → HasWrittenParts c.version c.rule c.weights c → MeetsConditions c
MeetsConditions-own {c} rule parts (SideClaims side.Right) = FallsOn-ranks side.Right rule (claim c.forward) parts.forward.ranks
MeetsConditions-own {c} rule parts (SideClaims side.Left) = FallsOn-ranks side.Left rule (claim c.backward) parts.backward.ranks
MeetsConditions-own {c} rule parts FullListed = (surjective-met c.version rule c.surjective parts.least.surjective parts.list).0
MeetsConditions-own {c} rule parts NoneEmpty = (surjective-met c.version rule c.surjective parts.least.surjective parts.list).1
MeetsConditions-own {c} rule parts Closed = (surjective-met c.version rule c.surjective parts.least.surjective parts.list).2
MeetsConditions-own {c} rule parts FirstsListed = (surjective-met c.version rule c.surjective parts.least.surjective parts.list).3
MeetsConditions-own {c} rule parts OffDiagonal = (surjective-met c.version rule c.surjective parts.least.surjective parts.list).4
MeetsConditions-own {c} rule parts PairsClosed = (surjective-met c.version rule c.surjective parts.least.surjective parts.list).5
MeetsConditions-own {c} rule parts OrphanRead = (surjective-met c.version rule c.surjective parts.least.surjective parts.list).6
MeetsConditions-own {c} rule parts WindowClaims = (injective-met rule c.injective c.forward c.backward parts.forward parts.backward parts.least.injective).0
MeetsConditions-own {c} rule parts TwinsAlike = (injective-met rule c.injective c.forward c.backward parts.forward parts.backward parts.least.injective).1
MeetsConditions-own {c} rule parts (SideAhead side.Right) = (right-met rule c.right c.forward parts.forward parts.least.right).0
MeetsConditions-own {c} rule parts (SideSplit side.Right) = (right-met rule c.right c.forward parts.forward parts.least.right).1
MeetsConditions-own {c} rule parts (SideAhead side.Left) = (left-met rule c.left c.backward parts.backward parts.least.left).0
MeetsConditions-own {c} rule parts (SideSplit side.Left) = (left-met rule c.left c.backward parts.backward parts.least.left).1
MeetsConditions-own {c} rule parts FluxFlows = (conserving-met (slice_index c.weights) rule c.conserving parts.least.conserving).0
MeetsConditions-own {c} rule parts RingLossy = (conserving-met (slice_index c.weights) rule c.conserving parts.least.conserving).1
