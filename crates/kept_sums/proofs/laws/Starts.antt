-- The first stage: each free place has the row that gives it the weight 1.
use Rattle.std.proofs.Common.{◌≡◌, ◌≢◌, ℕ, ◌-◌, ◌^◌, ◌<◌, ◌≤◌, List, [], replicate, slice_index_or, ℤ, pos, ◌*ℤ◌, sym, ap, ◌∙◌, ⊎_elim, ◌⊎◌, arith, unsigned_abs}
use Rattle.word_image.proofs.Common.{ints, cases_lt, LocalRule, IsRule}
use Rattle.kept_sums.specs.Sums.{sum_to}
use Rattle.kept_sums.specs.Rows.{at, IsUnit, IsCombined}
use Rattle.kept_sums.specs.Spans.{entry, IsSpanned}
use Rattle.kept_sums.specs.Stages.{IsStage}
use Rattle.kept_sums.proofs.laws.Spans.{sum_to-one}

-- the rows from first on and before size have one number that isn't 0, and the others none
pub record AreUnits (first size : ℕ) (rows : List (List ℤ)) : Type 0 where
  pub units : (i : ℕ) → first ≤ i → i < size → IsUnit i (slice_index_or rows i [])
  pub before : (i : ℕ) → i < first → (a : ℕ) → entry rows i a ≡ pos 0
  pub after : (i : ℕ) → size ≤ i → (a : ℕ) → entry rows i a ≡ pos 0

-- a row has one number that isn't 0, at its place, or none
unit_or_zero : {first size : ℕ} {rows : List (List ℤ)} → AreUnits first size rows → (i : ℕ)
    → ((first ≤ i) × (i < size) × IsUnit i (slice_index_or rows i [])) ⊎ ((a : ℕ) → entry rows i a ≡ pos 0)
unit_or_zero units i = grind arith

-- beside the places of the rows there are zeros
off : {first size : ℕ} {rows : List (List ℤ)} → AreUnits first size rows → (i a : ℕ) → a ≢ i → entry rows i a ≡ pos 0
off units i a other = ⊎_elim (λ one. one.2.others a other) (λ none. none a) (unit_or_zero units i)

-- each normal weight is the sum of unit rows, each as often as the weight says
spanned : {first size : ℕ} {rows : List (List ℤ)} → size ≤ 16 → AreUnits first size rows → (weight : ℕ → ℤ) → ((a : ℕ) → a < first → weight a ≡ pos 0)
    → IsSpanned size rows weight
spanned {first} {size} {rows} few units weight normal = record {
  times = 1;
  some = omega arith;
  parts = weight;
  sums = λ a l.
      let beside : (i : ℕ) → i ≢ a → weight i *ℤ entry rows i a ≡ pos 0 = λ i other.
      ap (λ (z : ℤ). weight i *ℤ z) (off units i a (λ e. other (sym e))) ∙ omega (arith, ints) in
      let whole : sum_to 16 (λ i. weight i *ℤ entry rows i a) ≡ weight a *ℤ entry rows a a =
      sum_to-one 16 (λ i. weight i *ℤ entry rows i a) a (omega arith) (λ i _. beside i) in
      let here : weight a *ℤ entry rows a a ≡ weight a =
      ⊎_elim
      (λ (h : a < first). ap (λ (z : ℤ). z *ℤ entry rows a a) (normal a h) ∙ ap (λ (z : ℤ). pos 0 *ℤ z) (units.before a h a) ∙ sym (normal a h))
      (λ (h : first ≤ a). ap (λ (z : ℤ). weight a *ℤ z) (units.units a h l).one ∙ omega (arith, ints))
      (cases_lt a first) in
      omega (arith, ints, whole, here);
}

-- 1 is combined of one number that is 1
combined_unit : (i : ℕ) (row : List ℤ) → i < 16 → IsUnit i row → IsCombined 16 row 1
combined_unit i row l unit = record {
  parts = λ a. pos 1;
  is =
      sum_to-one 16 (λ a. pos 1 *ℤ pos (unsigned_abs (at row a))) i l (λ a _ other. ap (λ (z : ℤ). pos 1 *ℤ pos (unsigned_abs z)) (unit.others a other))
      ∙ ap (λ (z : ℤ). pos 1 *ℤ pos (unsigned_abs z)) unit.one;
}

-- rows of one number each are the first stage
pub IsStage-start : (r : LocalRule) (range : ℕ) (rows : List (List ℤ)) → IsRule r → 1 ≤ range → r.states ^ range ≤ 16
    → AreUnits (r.states ^ (range - 1)) (r.states ^ range) rows
    → IsStage r range rows (replicate 16 0) (replicate 16 (replicate 15 0))
IsStage-start r range rows rule letter few units = grind (arith, combined_unit, spanned)
