-- There is one answer: two have the same rows.
use Rattle.std.proofs.Common.{◌≡◌, ◌≢◌, ℕ, ◌^◌, ◌<◌, ◌≤◌, List, [], slice_index_or, ℤ, pos, ◌-ℤ◌, ◌*ℤ◌, sym, ap, ◌∙◌, ⊎_elim, arith, ◌<ℤ◌, unsigned_abs, mul-le-mul_left}
use Rattle.word_image.proofs.Common.{cases_lt, cases_eq, ints, unsigned_abs-mul, LocalRule}
use Rattle.kept_sums.specs.Rows.{at, IsCombined}
use Rattle.kept_sums.specs.Spans.{entry, IsSpanned}
use Rattle.kept_sums.specs.Stages.{IsNormal, ring_at, IsStanding, IsZero, NotedKeep, IsStage, AreKeptSums}
use Rattle.kept_sums.proofs.laws.Integers.{other_factor, mul-sub, zero-of_times, zero-factor, factor-none, times-positive}
use Rattle.kept_sums.proofs.laws.Spans.{sum_to-one, sum_to-none}
use Rattle.kept_sums.proofs.laws.Combined.{multiple_of}
use Rattle.kept_sums.proofs.laws.Stages.{Stands, stands_or_zero, not_both}

-- where a multiple of a row of which 1 is combined is one of another row, the number is at least the other
least_multiple : (one other : List ℤ) (t s : ℕ) → 1 ≤ t → ((a : ℕ) → a < 16 → pos t *ℤ at one a ≡ pos s *ℤ at other a) → IsCombined 16 one 1 → s ≤ t
least_multiple one other t s some same combined =
    let part = multiple_of one 1 t s (λ a. unsigned_abs (at other a)) combined (omega arith) (λ a l. omega (arith, ap unsigned_abs (same a l), unsigned_abs-mul (pos t) (at one a), unsigned_abs-mul (pos s) (at other a))) in
    omega (arith, mul-le-mul_left s part.1, part.2)

-- two rows are one where a multiple of each is one of the other
same_row : (one other : List ℤ) (t s : ℕ) → 1 ≤ t → 1 ≤ s → ((a : ℕ) → a < 16 → pos t *ℤ at one a ≡ pos s *ℤ at other a) → IsCombined 16 one 1
    → IsCombined 16 other 1
    → (a : ℕ) → a < 16 → at one a ≡ at other a
same_row one other t s some more same first second a l =
    let below = least_multiple one other t s some same first in
    let above = least_multiple other one s t more (λ b h. sym (same b h)) second in
    let equal : t ≡ s = omega arith in
    omega (arith, ints, zero-of_times t (at one a -ℤ at other a) some (omega (arith, ints, mul-sub (pos t) (at one a) (at other a), same a l, ap (λ n. pos n *ℤ at other a) equal)))

-- a product that is positive, of a number and a positive one
factor-positive : (c x : ℤ) → pos 0 <ℤ x → pos 0 <ℤ (c *ℤ x) → (s : ℕ) × (1 ≤ s) × (c ≡ pos s)
factor-positive c x above product = grind arith

-- what weights that are combined of rows have where one of these stands
spanned_at : {rows : List (List ℤ)} {weight : ℕ → ℤ} (spanned : IsSpanned 16 rows weight) (l : ℕ) → l < 16 → IsStanding rows l
    → pos spanned.times *ℤ weight l ≡ spanned.parts l *ℤ entry rows l l
spanned_at {rows = rows} spanned l within standing =
    spanned.sums l within ∙ sum_to-one 16 (λ m. spanned.parts m *ℤ entry rows m l) l within (λ m h apart. factor-none (spanned.parts m) (entry rows m l) (standing.alone m h apart))

module _ {r : LocalRule} {range : ℕ} {rows : List (List ℤ)} {counts : List ℕ} {rings : List (List ℕ)} (stage : IsStage r range rows counts rings) where
  -- a combination takes nothing of a row where the weights are 0 if it stands, and what is taken is 0 if it is one of zeros
  pub part-none : {weight : ℕ → ℤ} (spanned : IsSpanned 16 rows weight)
      → (m : ℕ) → m < 16 → (x : ℤ) → (Stands r.states range rows counts m → weight m ≡ pos 0) → (IsZero rows m → x ≡ pos 0)
      → spanned.parts m *ℤ x ≡ pos 0
  part-none spanned m l x stood none =
      ⊎_elim
      (λ stands. zero-factor (spanned.parts m) x
      (other_factor (spanned.parts m) (entry rows m m) (not_both _ stands.standing.leads) (sym (spanned_at spanned m l stands.standing) ∙ factor-none (pos spanned.times) _ (stood stands))))
      (λ zeros. factor-none (spanned.parts m) x (none zeros))
      (stands_or_zero (stage.places m l))

  -- kept normal weights with zeros past the last word are combined of the rows at all sixteen places
  pub IsSpanned-all : (weight : ℕ → ℤ) → IsNormal r.states range weight
      → ((a : ℕ) → r.states ^ range ≤ a → a < 16 → weight a ≡ pos 0) → NotedKeep r range counts rings weight → IsSpanned 16 rows weight
  IsSpanned-all weight normal ends keep =
      let spanned = stage.complete weight normal keep in
      record {
        times = spanned.times;
        some = spanned.some;
        parts = spanned.parts;
        sums = λ a l.
            ⊎_elim
            (λ (inside : a < r.states ^ range). spanned.sums a inside)
            (λ (outside : r.states ^ range ≤ a).
            factor-none (pos spanned.times) (weight a) (ends a outside l)
            ∙ sym (sum_to-none 16 (λ i. spanned.parts i *ℤ entry rows i a) (λ i h. factor-none (spanned.parts i) (entry rows i a) (stage.ends i a h outside l))))
            (cases_lt a (r.states ^ range));
      }

module _ {r : LocalRule} {range : ℕ} {rows others : List (List ℤ)} {counts other_counts : List ℕ} {rings other_rings : List (List ℕ)}
    (one : AreKeptSums r range rows counts rings) (other : AreKeptSums r range others other_counts other_rings) where
  -- a row of the one answer is combined of those of the other
  spanned_row : (i : ℕ) → i < 16 → Stands r.states range rows counts i → IsSpanned 16 others (entry rows i)
  spanned_row i l stands =
      IsSpanned-all other.stage (entry rows i) (λ a below. let least = stands.free.least in stands.standing.begins a (omega arith)) (λ a from. one.stage.ends i a l from)
      (λ m h noted. one.kept i l (ring_at other_counts other_rings m) ((other.stage.places m h).ring noted))

  -- where a row of one answer stands, a row of the other does
  pub stands_too : (i : ℕ) → i < 16 → Stands r.states range rows counts i → Stands r.states range others other_counts i
  stands_too i l stands =
      let spanned = spanned_row i l stands in
      ⊎_elim
      (λ yes. yes)
      (λ (zeros : IsZero others i).
      let nothing : (m : ℕ) → m < 16 → spanned.parts m *ℤ entry others m i ≡ pos 0 = λ m h.
      ⊎_elim
      (λ (less : m < i). part-none other.stage spanned m h (entry others m i) (λ _. stands.standing.begins m less) (λ none. none i l))
      (λ (most : i ≤ m). factor-none (spanned.parts m) (entry others m i) (⊎_elim
      (λ (same : m ≡ i). rw same (zeros i l))
      (λ (apart : m ≢ i). ⊎_elim (λ upright. upright.standing.begins i (omega arith)) (λ none. none i l) (stands_or_zero (other.stage.places m h)))
      (cases_eq m i)))
      (cases_lt m i) in
      absurd (not_both (entry rows i i) stands.standing.leads (zero-of_times spanned.times (entry rows i i) spanned.some (spanned.sums i l ∙ sum_to-none 16 (λ m. spanned.parts m *ℤ entry others m i) nothing))))
      (stands_or_zero (other.stage.places i l))

-- two standing rows of one place are one row
pub same_standing : {r : LocalRule} {range : ℕ} {rows others : List (List ℤ)} {counts other_counts : List ℕ} {rings other_rings : List (List ℕ)}
    → AreKeptSums r range rows counts rings → AreKeptSums r range others other_counts other_rings → (i : ℕ) → i < 16
    → Stands r.states range rows counts i → (a : ℕ) → a < 16 → entry rows i a ≡ entry others i a
same_standing {rows = rows} {others} one other i l stands =
    let spanned = spanned_row one other i l stands in
    let too = (stands_too one other i l stands).standing in
    let positive = factor-positive (spanned.parts i) (entry others i i) too.leads (rw (spanned_at spanned i l too) at (times-positive spanned.times (entry rows i i) spanned.some stands.standing.leads)) in
    same_row (slice_index_or rows i []) (slice_index_or others i []) spanned.times positive.0 spanned.some positive.1
    (λ a n. spanned.sums a n
    ∙ sum_to-one 16 (λ m. spanned.parts m *ℤ entry others m a) i l (λ m h apart.
    part-none other.stage spanned m h (entry others m a) (λ upright. (stands_too other one m h upright).standing.alone i l (λ e. apart (sym e))) (λ none. none a n))
    ∙ ap (λ (z : ℤ). z *ℤ entry others i a) positive.2)
    stands.standing.combined too.combined
