-- What is written for a rule is within the limits of a certificate, its splits apart.
use Rattle.std.proofs.Common.{◌≡◌, ℕ, ◌+◌, ◌-◌, ◌*◌, ◌<◌, ◌≤◌, List, ◌++◌, length, get_or, slice_index, Contains, Option, Some, None, inl, sym, ap, subst, ◌∙◌, ⊎_elim, arith, length-append, ℤ, pos, MatchOption, sum_by, length-take-le}
use Rattle.word_image.proofs.Common.{cases_lt, get_or_past, Contains-get_or, All-from_get_or, get_or-map-range_with_len, sum_by-le, LocalRule, IsRule, word_of, node_count, AreWeights, IsDetermined, IsLeastDetermined, IsRightAhead, IsLeastRightAhead, full_set, pair_count, IsRank, IsEndless, length-word_of, length-image, pair_count-le}
use Rattle.word_image.specs.declared.side.Side.TheVariants.{Right}
use Rattle.pair_laws.proofs.Common.{Together-endless, IsDetermined-not_both_ways, IsDetermined-none_both_ways}
use Rattle.pair_laws.proofs.Aheads.{IsRightAhead-pairs}
use Rattle.ring_laws.proofs.Gains.{gain}
use Rattle.ring_laws.proofs.FluxWalks.{zeros, length-zeros, walk_gain, IsFlux-unique}
use Rattle.cert_values.specs.declared.cert_version.CertVersion.{CertVersion}
use Rattle.cert_values.proofs.Common.{SurjectiveEvidence, InjectiveEvidence, SumEvidence, IsSurjectiveShape, IsInjectiveShape, IsSideShape, IsSumShape, IsClaim, IsRankShape, IsNear, Sets, Pairs, Orphan, Window, Twins, Ahead, Flux, Ring, lists_pairs}
use Rattle.cert_conditions.proofs.Common.{Contains-full}
use Rattle.certificate_laws.specs.LeastEvidence.{IsOrphanPart, IsInjectivePart, IsConservingPart}
use Rattle.certificate_laws.specs.WrittenCertificates.{orphan_of, IsListPart, IsRankRow}
use Rattle.certificate_laws.proofs.MetConditions.{AreLastSets-family}
use Rattle.certificate_laws.proofs.PairLists.{below-reached}
use Rattle.certificate_laws.proofs.CoverLists.{Contains-covers}

-- the covers are sets of nodes, the reached pairs are pairs of them, and an orphan is a word
pub IsSurjectiveShape-written : (version : CertVersion) {r : LocalRule} → IsRule r → (e : SurjectiveEvidence) → IsOrphanPart r (orphan_of e)
    → IsListPart version r e → IsSurjectiveShape version r e
IsSurjectiveShape-written version {r} rule (Sets sets) surjective (two, (family, is, same)) = λ i d l.
    let last = AreLastSets-family surjective is in
    let listed = Contains-covers (full_set r) family (Contains-full last) (get_or sets i d) (subst (λ xs. Contains xs (get_or sets i d)) same (Contains-get_or sets i d l)) in
    let word = last.each (get_or sets i d) listed in omega (arith, word.1.last.within)
IsSurjectiveShape-written version rule (Pairs pairs) surjective (three, reached) = (ap lists_pairs three, below-reached rule reached)
IsSurjectiveShape-written version rule (Orphan w) least list = least.orphan.word

-- the least determined window has at most twice as many letters as there are pairs
IsLeastDetermined-le : {r : LocalRule} {n c : ℕ} → IsRule r → IsLeastDetermined r n c → n ≤ pair_count r + pair_count r
IsLeastDetermined-le {r} {n} {c} rule least =
    let most : IsDetermined r (pair_count r + pair_count r) (pair_count r) = IsDetermined-none_both_ways rule (λ p l other both. IsDetermined-not_both_ways rule least.determined p other both) in
    ⊎_elim (λ less. absurd (least.least (pair_count r + pair_count r) (pair_count r) (inl less) most)) (λ not_less. not_less) (cases_lt (pair_count r + pair_count r) n)

-- the least window is within its limits, and twins are words
pub IsInjectiveShape-written : {r : LocalRule} → IsRule r → (e : InjectiveEvidence) → IsInjectivePart r e → IsInjectiveShape r e
IsInjectiveShape-written rule (Window n c) part =
    let least = part.1 in
    let few = IsLeastDetermined-le rule least in
    grind (arith, pair_count-le)
IsInjectiveShape-written rule (Twins x y) part = (part.1.twins.first.word, part.1.twins.second.word)

-- the least look-ahead is at most one more than the number of pairs
IsLeastRightAhead-le : {r : LocalRule} {n : ℕ} → IsRule r → IsLeastRightAhead r n → n ≤ pair_count r + 1
IsLeastRightAhead-le {r} {n} rule least =
    let most : IsRightAhead r (pair_count r + 1) =
    (IsRightAhead-pairs rule (pair_count r + 1)).1 (
      omega arith,
      (λ p first begins. ((IsRightAhead-pairs rule n).0 least.ahead).1 p first (Together-endless Right rule _ _ _ (omega arith) begins (n - 1))),
    ) in
    ⊎_elim (λ less. absurd (least.least (pair_count r + 1) less most)) (λ not_less. not_less) (cases_lt (pair_count r + 1) n)

-- the least look-ahead is within its limits
pub IsSideShape-ahead : {r : LocalRule} {n : ℕ} → IsRule r → IsLeastRightAhead r n → IsSideShape r (Ahead n)
IsSideShape-ahead rule least = (least.ahead.some, omega (arith, IsLeastRightAhead-le rule least, pair_count-le rule))

-- exact ranks, which are below the number of pairs, are within their limits
pub IsRankShape-exact : {r : LocalRule} {row : List (Option ℕ)} (Together : ℕ → ℕ → ℕ → Type 0) → IsRule r
    → ((u v n : ℕ) → IsRank (Together u v) n → n < pair_count r) → IsRankRow r Together row → IsRankShape r row
IsRankShape-exact {r} {row} Together rule few ranks =
    record {
      each_pair = ranks.each_pair;
      claims = All-from_get_or IsClaim row None (grind arith);
    }

-- a weight is small, also that of what is no letter
weight-le : {k : ℕ} {weights : List ℕ} → AreWeights k weights → (a : ℕ) → slice_index weights a ≤ 255
weight-le {weights = weights} are a = grind (arith, get_or_past)

-- n letters weigh at most 255 n
letters-le : {k : ℕ} {weights : List ℕ} → AreWeights k weights → (w : List ℕ) → sum_by (slice_index weights) w ≤ length w * 255
letters-le {weights = weights} are w = sum_by-le (slice_index weights) 255 w (λ i d l. weight-le are (get_or w i d))

-- what a word of 2 (m - 1) letters gains lies between -1,020 and 1,020
IsNear-gain : {r : LocalRule} {weights : List ℕ} → IsRule r → AreWeights r.states weights → (x : List ℕ) → length x ≡ (r.width - 1) + (r.width - 1)
    → IsNear (gain (slice_index weights) r x)
IsNear-gain rule are x long = grind (arith, letters-le, length-image, length-take-le)

-- what flows over a node by the walk from it is within the limits
IsNear-walk_gain : {r : LocalRule} {weights : List ℕ} → IsRule r → AreWeights r.states weights → (v : ℕ) → v < node_count r
    → IsNear (walk_gain (slice_index weights) r v)
IsNear-walk_gain {r} rule are v l =
    let z : List ℕ = word_of r.states (r.width - 1) v in
    IsNear-gain rule are (z ++ zeros r)
    (omega (arith, length-append z (zeros r), length-zeros r, length-word_of r.states (r.width - 1) v))

-- the flux that is 0 at node 0 is within the limits, and a ring is a word
pub IsSumShape-written : {r : LocalRule} {weights : List ℕ} → IsRule r → AreWeights r.states weights → (e : SumEvidence)
    → IsConservingPart (slice_index weights) r e → IsSumShape r e
IsSumShape-written {r} {weights} rule are (Flux phi) part = (
  part.1.entries,
  All-from_get_or IsNear phi (pos 0) (λ v l.
      let below : v < node_count r = omega (arith, part.1.entries) in
      let same : get_or phi v (pos 0) ≡ walk_gain (slice_index weights) r v =
      ap (λ (f : List ℤ). get_or f v (pos 0)) (IsFlux-unique rule part.1 part.2) ∙ get_or-map-range_with_len (walk_gain (slice_index weights) r) 0 (node_count r) v v (pos 0) below (omega arith) in
      subst IsNear (sym same) (IsNear-walk_gain rule are v below)),
)
IsSumShape-written rule are (Ring p) part = part.1.lossy.ring.word
