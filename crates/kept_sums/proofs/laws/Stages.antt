-- Stages: the first one, and that after a ring whose sum some row doesn't keep.
use Rattle.std.proofs.Common.{◌≡◌, ◌≢◌, ℕ, suc, ◌+◌, ◌-◌, ◌*◌, ◌^◌, ◌<◌, ◌≤◌, List, [], length, take, set, slice_index, get_or-set_other, get_or-set_same, ℤ, pos, sym, ap, ap₂, subst, ◌∙◌, ⊎_elim, ◌⊎◌, inl, inr, arith, ◌<ℤ◌, length-set}
use Rattle.word_image.proofs.Common.{cases_lt, cases_eq, ints, at-set, LocalRule, IsWord, IsRing}
use Rattle.kept_sums.specs.Sums.{KeepsSumOf}
use Rattle.kept_sums.specs.Spans.{entry, gain_at, IsNarrowed, AreSmall}
use Rattle.kept_sums.specs.Stages.{IsFree, ring_at, IsStanding, IsZero, IsPlace, NotedKeep, IsStage, IsCondition}
use Rattle.kept_sums.proofs.laws.Integers.{factor-none}
use Rattle.kept_sums.proofs.laws.Spans.{IsSpanned-narrowed, gain_at-zero, IsZero-narrowed, IsZero-pivot, linear-narrowed, IsStanding-narrowed}
use Rattle.kept_sums.proofs.laws.Sums.{IsLinear-at}

-- how many free places there are before a place
abbrev pub free_before : ℕ → ℕ → ℕ → ℕ
free_before k range i = (i - k ^ (range - 1)) - (i - k ^ range)

-- with a free place there is one more of them, and with another place there are as many
pub free_more : (k range i : ℕ)
    → (IsFree k range i × (free_before k range (suc i) ≡ suc (free_before k range i))) ⊎ ((¬ IsFree k range i) × (free_before k range (suc i) ≡ free_before k range i))
free_more k range i = grind arith

-- what is positive isn't 0
pub not_both : (x : ℤ) → pos 0 <ℤ x → x ≢ pos 0
not_both x above none = omega (arith, ints, above, none)

-- a row that stands, in a free place where no ring is noted
pub record Stands (k range : ℕ) (rows : List (List ℤ)) (counts : List ℕ) (i : ℕ) : Type 0 where
  pub free : IsFree k range i
  pub none : slice_index counts i ≡ 0
  pub standing : IsStanding rows i

module _ {k range : ℕ} {rows : List (List ℤ)} {counts : List ℕ} {rings : List (List ℕ)} {i : ℕ} (place : IsPlace k range rows counts rings i) where
  -- no ring is noted in a place that isn't free
  pub none-past : ¬ IsFree k range i → slice_index counts i ≡ 0
  none-past outside = let no : ¬ (1 ≤ slice_index counts i) = λ some. outside (place.free some) in omega arith

  -- a place has a row that stands, or one of zeros
  pub stands_or_zero : Stands k range rows counts i ⊎ IsZero rows i
  stands_or_zero =
      ⊎_elim
      (λ free. ⊎_elim
      (λ (none : slice_index counts i < 1). inl (record { free = free.0; none = omega arith; standing = place.standing free.0 (omega arith) }))
      (λ (some : 1 ≤ slice_index counts i). inr (place.dropped some))
      (cases_lt (slice_index counts i) 1))
      (λ outside. inr (place.past outside.0))
      (free_more k range i)

-- a ring that is noted in a place
pub ring_at-here : (counts : List ℕ) (rings : List (List ℕ)) (j n : ℕ) (letters : List ℕ) → j < length counts → j < length rings
    → ring_at (set counts j n) (set rings j letters) j ≡ take n letters
ring_at-here counts rings j n letters l h = ap₂ (λ (m : ℕ) (xs : List ℕ). take m xs) (get_or-set_same counts j n 0 l) (get_or-set_same rings j letters [] h)

-- the rings of other places stay
pub ring_at-other : (counts : List ℕ) (rings : List (List ℕ)) (j n : ℕ) (letters : List ℕ) (i : ℕ) → i ≢ j
    → ring_at (set counts j n) (set rings j letters) i ≡ ring_at counts rings i
ring_at-other counts rings j n letters i other = ap₂ (λ (m : ℕ) (xs : List ℕ). take m xs) (get_or-set_other counts j i n 0 other) (get_or-set_other rings j i letters [] other)

module _ {r : LocalRule} {range : ℕ} {rows : List (List ℤ)} {counts : List ℕ} {rings : List (List ℕ)} (stage : IsStage r range rows counts rings) where
  -- a row that gains stands
  pub Stands-gains : (x y : List ℕ) → IsWord 16 x → IsWord 16 y → (j : ℕ) → j < 16 → gain_at (entry rows j) x y ≢ pos 0
      → Stands r.states range rows counts j
  Stands-gains x y one two j l gains = ⊎_elim (λ stands. stands) (λ zeros. absurd (gains (gain_at-zero rows j x y one two zeros))) (stands_or_zero (stage.places j l))

  -- what keeps the sums of the noted rings and of one more keeps those that were noted before, and that of this one
  pub NotedKeep-set : (weight : ℕ → ℤ) (j n : ℕ) (letters : List ℕ) → j < 16 → 1 ≤ n
      → slice_index counts j ≡ 0 → NotedKeep r range (set counts j n) (set rings j letters) weight
      → NotedKeep r range counts rings weight × KeepsSumOf range weight r (take n letters)
  NotedKeep-set weight j n letters within some none keep = (
    λ i l noted.
        let other : i ≢ j = λ e. let at_j = ap (slice_index counts) e in absurd (omega arith) in
        subst (KeepsSumOf range weight r) (ring_at-other counts rings j n letters i other) (keep i l (omega (arith, noted, get_or-set_other counts j i n 0 other))),
    subst (KeepsSumOf range weight r) (ring_at-here counts rings j n letters (omega arith) (omega arith)) (keep j within (omega (arith, some, get_or-set_same counts j n 0 (omega arith)))),
  )

-- the rows are narrowed by two words that say of a ring whether it keeps a sum, and the ring is noted
pub IsStage-narrowed : {r : LocalRule} {range : ℕ} {rows news : List (List ℤ)} {counts : List ℕ} {rings : List (List ℕ)} {x y : List ℕ} {j : ℕ} (n : ℕ) (letters : List ℕ)
    → IsStage r range rows counts rings → r.states ^ range ≤ 16 → IsCondition r range (take n letters) x y → j < 16
    → ((i : ℕ) → j < i → i < 16 → gain_at (entry rows i) x y ≡ pos 0)
    → IsNarrowed rows x y j news → AreSmall news → 1 ≤ n → n + 3 ≤ 2 * (r.width + range) → IsRing r.states (take n letters)
    → IsStage r range news (set counts j n) (set rings j letters)
IsStage-narrowed {r} {range} {rows} {news} {counts} {rings} {x} {y} {j} n letters stage few condition within last narrowed small some fits ring =
    let pivot = Stands-gains stage x y condition.short.after_word condition.short.before_word j within (λ none. absurd (omega (arith, ints, none, narrowed.gains, narrowed.some))) in
    let here : slice_index (set counts j n) j ≡ n = get_or-set_same counts j n 0 (omega arith) in
    record {
      places = λ i l.
          let old = stage.places i l in
          ⊎_elim
          (λ (same : i ≡ j). subst (λ a. IsPlace r.states range news (set counts j n) (set rings j letters) a) (sym same) (record {
            standing = λ free none. absurd (omega arith);
            dropped = λ _. IsZero-pivot narrowed within;
            ring = λ _. subst (IsRing r.states) (sym (ring_at-here counts rings j n letters (omega arith) (omega arith))) ring;
            free = λ _. pivot.free;
            past = λ no. absurd (no pivot.free);
          }))
          (λ (other : i ≢ j).
          let count : slice_index (set counts j n) i ≡ slice_index counts i = get_or-set_other counts j i n 0 other in
          let zeros = IsZero-narrowed narrowed condition.short.after_word condition.short.before_word i l in
          record {
            standing = λ free none. IsStanding-narrowed narrowed within last pivot.standing i l other (old.standing free (omega arith));
            dropped = λ noted. zeros (old.dropped (omega arith));
            ring = λ noted. subst (IsRing r.states) (sym (ring_at-other counts rings j n letters i other)) (old.ring (omega arith));
            free = λ noted. old.free (omega arith);
            past = λ no. zeros (old.past no);
          })
          (cases_eq i j);
      ends = λ i a l from h. linear-narrowed narrowed (IsLinear-at h) i l (stage.ends i a l from h) (factor-none _ _ (stage.ends j a within from h));
      complete = λ weight normal keep.
          let keeps = NotedKeep-set stage weight j n letters within some pivot.none keep in
          IsSpanned-narrowed few condition.x_word condition.y_word narrowed ((condition.keeps weight).0 keeps.1) (stage.complete weight normal keeps.0);
      short = λ i l. at-set (λ _ count. count + 3 ≤ 2 * (r.width + range)) counts j 0 n (omega arith) i (λ _. stage.short i l) fits;
      small = small;
      many_counts = length-set counts j n ∙ stage.many_counts;
      many_rings = length-set rings j letters ∙ stage.many_rings;
    }
