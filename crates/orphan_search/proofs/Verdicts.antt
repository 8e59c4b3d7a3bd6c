-- What the family of a rule says of its orphans.
use Rattle.std.proofs.Common.{◌≡◌, ◌≢◌, ℕ, ◌-◌, List, length, slice_index, Contains, sym, ap, ◌∙◌, subst, arith, ⊎_elim}
use Rattle.word_image.proofs.Common.{cases_eq, LocalRule, IsRule, IsSurjective, IsLeastOrphan, IsLastSet, IsLeastWordOf, IsFamily, IsOrphan-empty_set, IsPreimage-nonempty_set}
use Rattle.search_laws.proofs.Common.{LeadsToSet-some, IsLastSet-leads, IsLastSet-orphan}

-- the least word of the empty set is the least orphan
pub IsLeastOrphan-empty : {r : LocalRule} {set : ℕ} {w : List ℕ} → IsRule r → IsLeastWordOf r set w → set ≡ 0 → IsLeastOrphan r w
IsLeastOrphan-empty {r} {set} {w} rule first empty = record {
  orphan = IsOrphan-empty_set (subst (IsLastSet r w) empty first.set_of);
  least = λ v orphan. first.least v (subst (IsLastSet r v) (sym empty) (IsLastSet-orphan rule orphan));
}

-- where the last set isn't empty, none is
pub nonempty_family : {r : LocalRule} {sets : List ℕ} → IsFamily r sets → slice_index sets (length sets - 1) ≢ 0 → ¬ Contains sets 0
nonempty_family {r} {sets} family last (i, below, empty) =
    ⊎_elim
    (λ ends. last (ap (slice_index sets) (sym ends) ∙ empty))
    (λ before. family.nonempty i (omega (arith, before)) empty)
    (cases_eq i (length sets - 1))

-- a rule whose family lacks the empty set is surjective
pub IsSurjective-family : {r : LocalRule} {sets : List ℕ} → IsRule r → IsFamily r sets → ¬ Contains sets 0 → IsSurjective r
IsSurjective-family {r} {sets} rule family nonempty w word =
    let found = LeadsToSet-some r w word in
    let last = IsLastSet-leads rule found.1 in
    let listed : Contains sets found.0 = ⊎_elim (λ has. has) (λ before. absurd (nonempty before.3)) (family.all w found.0 last) in
    IsPreimage-nonempty_set last (λ empty. nonempty (subst (Contains sets) empty listed))
