-- The first lossy ring of the least length that has one is the first of all.
use Rattle.std.proofs.Common.{ℕ, ◌<◌, ◌≤◌, List, length, refl, sym, ◌∙◌, ⊎_elim, arith, nat_cmp}
use Rattle.word_image.proofs.Common.{slice_cmp, cases_lt, LocalRule, value, IsLeastLossyRing, key_not_greater, nat_cmp-le, slice_cmp-value}
use Rattle.flux_conserve.specs.LeastRings.{IsFirstLossyRing, KeepSumAt}

-- where the rings of fewer letters keep their sums
pub IsLeastLossyRing-first : {weight : ℕ → ℕ} {r : LocalRule} {n : ℕ} {p : List ℕ} → ((j : ℕ) → j < n → KeepSumAt weight r j)
    → IsFirstLossyRing weight r n p → IsLeastLossyRing weight r p
IsLeastLossyRing-first {r} {n} {p} fewer first = record {
  lossy = first.lossy;
  least = λ q other.
      let few : length p ≤ length q = ⊎_elim (λ fewer_letters. absurd (other.loses (fewer (length q) (omega (arith, first.long)) q other.ring refl))) (λ le. le) (cases_lt (length q) (length p)) in
      (key_not_greater (length p) (length q) (slice_cmp nat_cmp p q)).1 (
        few,
        λ same greater.
            nat_cmp-le (value r.states p) (value r.states q) (first.first q other (sym same ∙ first.long))
            (sym (slice_cmp-value r.states p q first.lossy.ring.word other.ring.word same) ∙ greater),
      );
}
