-- A search for the fewest last nodes may stop at a set of one node if the rule is surjective.
use Rattle.std.proofs.Common.{◌≢◌, ℕ, ◌<◌, ◌≤◌, List, count_ones, refl, subst, arith, ⊎_elim, Greater}
use Rattle.std.proofs.lemmas.Nat.{zero_from_ones}
use Rattle.word_image.proofs.Common.{IsOrphan-empty_set, IsOrphan-not_surjective, cases_lt, word_cmp, LocalRule, IsSurjective, IsLastSet}
use Rattle.welch_index.specs.Fewest.{IsFewestLast}

-- no word of a surjective rule has an empty set
some_last : {r : LocalRule} {v : List ℕ} {set : ℕ} → IsSurjective r → IsLastSet r v set → 0 < count_ones set
some_last {r} {v} {set} onto last =
    ⊎_elim (λ some. some)
    (λ none. absurd (IsOrphan-not_surjective (IsOrphan-empty_set (subst (IsLastSet r v) (zero_from_ones set (omega (arith, none))) last)) onto))
    (cases_lt 0 (count_ones set))

-- the set that the search returns is a smallest one, also if the search has stopped at a set of one node
pub IsFewestLast-found : {r : LocalRule} {enough set : ℕ} {w : List ℕ} → enough ≤ 1 → (0 < enough → IsSurjective r) → IsLastSet r w set
    → (enough < count_ones set → (v : List ℕ) (s : ℕ) → IsLastSet r v s → count_ones set ≤ count_ones s)
    → ((v : List ℕ) (s : ℕ) → IsLastSet r v s → count_ones s ≤ count_ones set → word_cmp w v ≢ Greater)
    → IsFewestLast r (count_ones set) set w
IsFewestLast-found {r} {enough} {set} {w} one onto last fewest first =
    record {
      last = last;
      count = refl;
      fewest = λ v c has. ⊎_elim
          (λ more. omega (arith, fewest more v has.nodes has.last, has.count))
          (λ few. ⊎_elim
          (λ some. omega (arith, few, one, some_last (onto some) has.last, has.count))
          (λ none. omega (arith, few, none))
          (cases_lt 0 enough))
          (cases_lt enough (count_ones set));
      least = λ v has. first v has.nodes has.last (omega (arith, has.count));
    }
