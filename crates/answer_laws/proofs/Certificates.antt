-- The certificate that is written for a rule is one: its least evidence, its cover list or reached pairs, and its ranks.
use Rattle.std.proofs.Common.{◌≡◌, ℕ, ◌+◌, ◌<◌, ◌≤◌, ⊎_elim, List, [], length, get_or, Contains, refl, sym, ap, ◌∙◌, subst, arith, Option, None, Some, MatchOption}
use Rattle.std.proofs.lemmas.Cmp.{nat_cmp_total}
use Rattle.std.proofs.lemmas.Map.Keys.{sorted_from_strictly_increasing}
use Rattle.word_image.proofs.Common.{same_number_lists, get_or_default, same_lists, none-some, same_Some, LocalRule, IsRule, IsSurjective, word_cmp_total, first_of, second_of, full_set, IsRank, IsEndless, IsLastSet, IsLeastWordOf, IsFamily, covers_of, IsCoverList, Together, IsOrphan-empty_set, IsOrphan-not_surjective, paired_at, paired_length}
use Rattle.word_image.specs.declared.side.Side.{Side}
use Rattle.word_image.specs.declared.side.Side.TheVariants.{Right, Left}
use Rattle.pair_laws.proofs.Common.{IsRank-one, Together-less}
use Rattle.search_laws.proofs.Common.{IsAscending-sorted, IsLastSet-unique, one_word, same_members}
use Rattle.cert_values.specs.declared.cert_version.CertVersion.{CertVersion}
use Rattle.cert_values.specs.declared.cert_version.CertVersion.TheVariants.{Two, Three}
use Rattle.cert_values.proofs.Common.{SurjectiveEvidence, Sets, Pairs, Orphan, Certificate}
use Rattle.certificate_laws.specs.LeastEvidence.{Evidence, IsOrphanPart}
use Rattle.certificate_laws.specs.WrittenCertificates.{orphan_of, IsListPart, IsRankRow, IsWritten}
use Rattle.garden_laws.specs.ReachedPairs.{AreReached}
use Rattle.answer_laws.proofs.Evidence.{IsLeastEvidence-unique}

-- what holds for each lesser length has one rank, or none
IsRank-unique : (P : ℕ → Type 0) → ((i n : ℕ) → i ≤ n → P n → P i) → (o p : Option ℕ) → MatchOption o (IsEndless P) (IsRank P)
    → MatchOption p (IsEndless P) (IsRank P) → o ≡ p
IsRank-unique P less None None h g = refl
IsRank-unique P less None (Some n) h g = absurd (g.no_more (h (n + 1)))
IsRank-unique P less (Some n) None h g = absurd (h.no_more (g (n + 1)))
IsRank-unique P less (Some n) (Some m) h g = ap Some (IsRank-one P less n m h g)

-- the ranks of all pairs are one list
IsRankRow-unique : (side : Side) {r : LocalRule} {row other : List (Option ℕ)} → IsRule r → IsRankRow r (Together side r) row
    → IsRankRow r (Together side r) other → row ≡ other
IsRankRow-unique side {r} {row} {other} rule here there =
    same_lists row other (here.each_pair ∙ sym there.each_pair) (λ p d within.
    let inside : p < length other = omega (arith, within, here.each_pair, there.each_pair) in
    get_or_default row p d None within
    ∙ IsRank-unique (Together side r (first_of r p) (second_of r p)) (λ i n. Together-less side rule (first_of r p) (second_of r p) i n) (get_or row p None) (get_or other p None)
    (here.ranks p (omega (arith, within, here.each_pair))) (there.ranks p (omega (arith, inside, there.each_pair)))
    ∙ get_or_default other p None d inside)

-- the reached pairs are one list
AreReached-unique : {r : LocalRule} {pairs others : List ℕ} → AreReached r pairs → AreReached r others → pairs ≡ others
AreReached-unique {r} {pairs} {others} here there =
    same_members nat_cmp_total pairs others (sorted_from_strictly_increasing pairs here.ascending) (sorted_from_strictly_increasing others there.ascending)
    (λ p. ((λ h. (there.exactly p).1 ((here.exactly p).0 h)), (λ h. (here.exactly p).1 ((there.exactly p).0 h))))

-- a set has one least word
IsLeastWordOf-unique : {r : LocalRule} {set : ℕ} {v w : List ℕ} → IsLeastWordOf r set v → IsLeastWordOf r set w → v ≡ w
IsLeastWordOf-unique {v = v} {w = w} h g = one_word v w (h.least w g.set_of) (g.least v h.set_of)

-- the families of a surjective rule have the same words
words_within : {r : LocalRule} {sets others : List ℕ} → IsSurjective r → (here : IsFamily r sets) (there : IsFamily r others) (w : List ℕ)
    → Contains here.words w → Contains there.words w
words_within {r} {sets} {others} every here there w (k, within, at) =
    let inside : k < length sets = omega (arith, within, paired_length (IsLeastWordOf r) sets here.words here.each) in
    let first : IsLeastWordOf r (get_or sets k 0) w = subst (IsLeastWordOf r (get_or sets k 0)) at (paired_at (IsLeastWordOf r) sets here.words k 0 w here.each inside) in
    ⊎_elim
    (λ (j, among, stands).
    let also = paired_at (IsLeastWordOf r) others there.words j (get_or sets k 0) w there.each among in
    let second : IsLeastWordOf r (get_or sets k 0) (get_or there.words j w) = subst (λ s. IsLeastWordOf r s (get_or there.words j w)) stands also in
    (j, omega (arith, among, paired_length (IsLeastWordOf r) others there.words there.each), IsLeastWordOf-unique second first))
    (λ (e, none, _, _). absurd (IsOrphan-not_surjective (IsOrphan-empty_set none) every))
    (there.all w (get_or sets k 0) first.set_of)

-- a surjective rule has one family
IsFamily-unique : {r : LocalRule} {sets others : List ℕ} → IsSurjective r → IsFamily r sets → IsFamily r others → sets ≡ others
IsFamily-unique {r} {sets} {others} every here there =
    let words = same_members word_cmp_total here.words there.words (IsAscending-sorted here.words here.ascending) (IsAscending-sorted there.words there.ascending) (λ w. (words_within every here there w, words_within every there here w)) in
    let long = paired_length (IsLeastWordOf r) sets here.words here.each ∙ ap length words ∙ sym (paired_length (IsLeastWordOf r) others there.words there.each) in
    same_number_lists sets others long (λ k within.
    let first = (paired_at (IsLeastWordOf r) sets here.words k 0 [] here.each within).set_of in
    let second = (paired_at (IsLeastWordOf r) others there.words k 0 [] there.each (omega (arith, within, long))).set_of in
    IsLastSet-unique first (subst (λ ws. IsLastSet r (get_or ws k []) (get_or others k 0)) (sym words) second))

-- a surjective rule has one cover list
IsCoverList-unique : {r : LocalRule} {covers others : List ℕ} → IsSurjective r → IsCoverList r covers → IsCoverList r others → covers ≡ others
IsCoverList-unique {r} every (family, is, here) (sets, also, there) = here ∙ ap (covers_of (full_set r)) (IsFamily-unique every is also) ∙ sym there

-- no certificate is of both versions
one_version : {version : CertVersion} → version ≡ Two → version ≡ Three → ⊥
one_version here there = let both : Two ≡ Three = sym here ∙ there in absurd (cc)

-- what shows whether a rule is surjective is one in each version
IsListPart-unique : (version : CertVersion) (r : LocalRule) (e f : SurjectiveEvidence) → orphan_of e ≡ orphan_of f → IsOrphanPart r (orphan_of e)
    → IsListPart version r e → IsListPart version r f → e ≡ f
IsListPart-unique version r (Sets sets) (Sets others) same every h g = ap Sets (IsCoverList-unique every h.1 g.1)
IsListPart-unique version r (Sets sets) (Pairs pairs) same every h g = absurd (one_version h.0 g.0)
IsListPart-unique version r (Sets sets) (Orphan w) same every h g = absurd (none-some w same)
IsListPart-unique version r (Pairs pairs) (Sets sets) same every h g = absurd (one_version g.0 h.0)
IsListPart-unique version r (Pairs pairs) (Pairs others) same every h g = ap Pairs (AreReached-unique h.1 g.1)
IsListPart-unique version r (Pairs pairs) (Orphan w) same every h g = absurd (none-some w same)
IsListPart-unique version r (Orphan x) (Sets sets) same least h g = absurd (none-some x (sym same))
IsListPart-unique version r (Orphan x) (Pairs pairs) same least h g = absurd (none-some x (sym same))
IsListPart-unique version r (Orphan x) (Orphan w) same least h g = ap Orphan (same_Some x w same)

-- the least evidence of a certificate
abbrev evidence_of : Certificate → Evidence
evidence_of c =
    record { rule = c.rule; weights = c.weights; orphan = orphan_of c.surjective; injective = c.injective; right = c.right; left = c.left; conserving = c.conserving }

-- one certificate is written for a rule and weights
pub IsWritten-unique : {version : CertVersion} {r : LocalRule} {weights : List ℕ} {c d : Certificate} → IsRule r → IsWritten version r weights c
    → IsWritten version r weights d → c ≡ d
IsWritten-unique {version} {r} {c = c} {d = d} rule here there =
    let h = here.parts in
    let g = there.parts in
    let evidence : evidence_of c ≡ evidence_of d = IsLeastEvidence-unique rule (h.weights_are ∙ sym g.weights_are) h.least g.least in
    let surjective : c.surjective ≡ d.surjective = IsListPart-unique version r c.surjective d.surjective (ap (λ e. e.orphan) evidence) (h.least).surjective h.list g.list in
    let version : c.version ≡ d.version = h.version_is ∙ sym g.version_is in
    let forward : c.forward ≡ d.forward = IsRankRow-unique Right rule h.forward g.forward in
    let backward : c.backward ≡ d.backward = IsRankRow-unique Left rule h.backward g.backward in
    λ i. record { version = version i; rule = (evidence i).rule; surjective = surjective i; injective = (evidence i).injective; right = (evidence i).right; left = (evidence i).left; conserving = (evidence i).conserving; weights = (evidence i).weights; forward = forward i; backward = backward i }
