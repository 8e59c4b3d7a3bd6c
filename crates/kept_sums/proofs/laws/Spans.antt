-- The step of the elimination: what it leaves keeps one sum more, and each weight that keeps it is still a combination.
use Rattle.std.proofs.Common.{◌≡◌, ◌≢◌, ℕ, zero, suc, ◌+◌, ◌*◌, ◌<◌, ◌≤◌, List, map, ℤ, pos, ◌+ℤ◌, ◌-ℤ◌, ◌*ℤ◌, refl, sym, ap, ap₂, ◌∙◌, ⊎_elim, arith, mul-le-mul}
use Rattle.word_image.proofs.Common.{cases_eq, chosen_below, ints, map-range_with_len_more, range_with_len, IsWord, cases_lt}
use Rattle.kept_sums.specs.Sums.{sum_at, sum_to}
use Rattle.kept_sums.specs.Spans.{entry, IsSpanned, gain_at, IsNarrowed}
use Rattle.kept_sums.proofs.laws.Integers.{mul-add, mul-sub, mul-assoc, mul-swap, zero-of_times, zero-factor, factor-none, positive-of_times, times-positive}
use Rattle.kept_sums.proofs.laws.Sums.{sum_at-snoc, IsLinear, IsLinear-gain, linear-sum_to, IsLinear-at, linear-none}
use Rattle.kept_sums.specs.Stages.{IsStanding, IsZero}

-- the sum of equal numbers is equal
pub sum_to-agree : (n : ℕ) {f g : ℕ → ℤ} → ((i : ℕ) → i < n → f i ≡ g i) → sum_to n f ≡ sum_to n g
unfolding sum_to
sum_to-agree zero agree = refl
sum_to-agree (suc n) {f} {g} agree = ap₂ (λ (x y : ℤ). x +ℤ y) (sum_to-agree n (λ i l. agree i (omega arith))) (agree n (omega arith))

-- the sum of differences
pub sum_to-sub : (n : ℕ) (f g : ℕ → ℤ) → sum_to n (λ i. f i -ℤ g i) ≡ sum_to n f -ℤ sum_to n g
unfolding sum_to
sum_to-sub zero f g = omega (arith, ints)
sum_to-sub (suc n) f g = omega (arith, ints, sum_to-sub n f g)

-- the sum of multiples
pub sum_to-scaled : (n : ℕ) (x : ℤ) (f : ℕ → ℤ) → sum_to n (λ i. x *ℤ f i) ≡ x *ℤ sum_to n f
unfolding sum_to
sum_to-scaled zero x f = omega (arith, ints)
sum_to-scaled (suc n) x f = omega (arith, ints, sum_to-scaled n x f, mul-add x (sum_to n f) (f n))

-- n + 1 terms are the others and the last, or the first and the others
pub sum_to-ends : (n : ℕ) (f : ℕ → ℤ) → sum_to n f +ℤ f n ≡ f 0 +ℤ sum_to n (λ i. f (i + 1))
unfolding sum_to
sum_to-ends zero f = omega (arith, ints)
sum_to-ends (suc n) f = let e : n + 1 ≡ suc n = omega arith in omega (arith, ints, sum_to-ends n f, ap f e)

-- the sum over a list of n values
pub sum_at-map : (weight : ℕ → ℤ) (f : ℕ → ℕ) (n : ℕ) → sum_at weight (map f (range_with_len 0 n)) ≡ sum_to n (λ i. weight (f i))
unfolding sum_to
sum_at-map weight f zero = refl
sum_at-map weight f (suc n) =
    let next : suc n ≡ n + 1 = omega arith in
    ap (λ j. sum_at weight (map f (range_with_len 0 j))) next
    ∙ ap (sum_at weight) (map-range_with_len_more f 0 n n (omega arith))
    ∙ sum_at-snoc weight (map f (range_with_len 0 n)) (f n)
    ∙ ap (λ (x : ℤ). x +ℤ weight (f n)) (sum_at-map weight f n)

-- no number is other than 0
pub sum_to-none : (n : ℕ) (f : ℕ → ℤ) → ((i : ℕ) → i < n → f i ≡ pos 0) → sum_to n f ≡ pos 0
unfolding sum_to
sum_to-none zero f none = refl
sum_to-none (suc n) f none = omega (arith, ints, sum_to-none n f (λ i l. none i (omega arith)), none n (omega arith))

-- only one number isn't 0
pub sum_to-one : (n : ℕ) (f : ℕ → ℤ) (j : ℕ) → j < n → ((i : ℕ) → i < n → i ≢ j → f i ≡ pos 0) → sum_to n f ≡ f j
unfolding sum_to
sum_to-one zero f j l beside = absurd (omega arith)
sum_to-one (suc n) f j l beside =
    ⊎_elim
    (λ (same : n ≡ j). omega (arith, ints, sum_to-none n f (λ i h. beside i (omega arith) (λ e. omega arith)), ap f same))
    (λ (other : n ≢ j). omega (arith, ints, sum_to-one n f j (omega arith) (λ i h. beside i (omega arith)), beside n (omega arith) other))
    (cases_eq n j)

-- a positive multiple of what a linear function gives spanned weights is combined of what it gives the rows
pub IsSpanned-linear : {k : ℕ} {F : (ℕ → ℤ) → ℤ} {rows : List (List ℤ)} {weight : ℕ → ℤ} → IsLinear k F → (spanned : IsSpanned k rows weight)
    → pos spanned.times *ℤ F weight ≡ sum_to 16 (λ i. spanned.parts i *ℤ F (entry rows i))
IsSpanned-linear {rows = rows} {weight} linear spanned =
    sym (linear.scaled (pos spanned.times) weight) ∙ linear.agree spanned.sums ∙ linear-sum_to linear 16 spanned.parts (entry rows)

-- one part of a combination, crossed
crossed_part : (part lead old gain other : ℤ) → part *ℤ ((lead *ℤ old) -ℤ (gain *ℤ other)) ≡ (lead *ℤ (part *ℤ old)) -ℤ ((part *ℤ gain) *ℤ other)
crossed_part part lead old gain other = omega (arith, ints, mul-sub part (lead *ℤ old) (gain *ℤ other), mul-swap part lead old, mul-assoc part gain other)

-- the cross of weights with a number is linear
IsLinear-cross : {k a : ℕ} (lead other : ℤ) (x y : List ℕ) → a < k → IsWord k x → IsWord k y
    → IsLinear k (λ f. (lead *ℤ f a) -ℤ (gain_at f x y *ℤ other))
IsLinear-cross {a = a} lead other x y l one two =
    let gain = IsLinear-gain x y one two in
    record {
      agree = λ same. ap₂ (λ (u v : ℤ). (lead *ℤ u) -ℤ (v *ℤ other)) (same a l) (gain.agree same);
      scaled = λ n f. ap (λ (z : ℤ). (lead *ℤ (n *ℤ f a)) -ℤ (z *ℤ other)) (gain.scaled n f) ∙ sym (crossed_part n lead (f a) (gain_at f x y) other);
      sub = λ f g. omega (arith, ints, ap (λ (z : ℤ). z *ℤ other) (gain.sub f g), mul-sub lead (f a) (g a), mul-sub other (gain_at f x y) (gain_at g x y));
    }

-- weights that gain nothing are combined of the crosses of the rows with one of them
pub spanned_crosses : {k : ℕ} {rows : List (List ℤ)} {weight : ℕ → ℤ} (lead j : ℕ) (x y : List ℕ) → IsWord k x → IsWord k y
    → gain_at weight x y ≡ pos 0 → (spanned : IsSpanned k rows weight)
    → (a : ℕ) → a < k
    → pos (lead * spanned.times) *ℤ weight a ≡ sum_to 16 (λ i. spanned.parts i *ℤ ((pos lead *ℤ entry rows i a) -ℤ (gain_at (entry rows i) x y *ℤ entry rows j a)))
spanned_crosses {rows = rows} {weight} lead j x y one two none spanned a l =
    let t : ℤ = pos spanned.times in
    let here : pos lead *ℤ weight a ≡ (pos lead *ℤ weight a) -ℤ (gain_at weight x y *ℤ entry rows j a) = rw none (omega (arith, ints)) in
    omega (arith, ints, mul-assoc t (pos lead) (weight a)) ∙ ap (λ (z : ℤ). t *ℤ z) here ∙ IsSpanned-linear (IsLinear-cross (pos lead) (entry rows j a) x y l one two) spanned

-- weights that gain nothing are a combination of the narrowed rows where they are one of the rows
pub IsSpanned-narrowed : {k j : ℕ} {rows news : List (List ℤ)} {x y : List ℕ} {weight : ℕ → ℤ} → k ≤ 16 → IsWord k x → IsWord k y
    → IsNarrowed rows x y j news → gain_at weight x y ≡ pos 0 → IsSpanned k rows weight → IsSpanned k news weight
IsSpanned-narrowed {k} {j} {rows} {news} {x} {y} few one two narrowed none spanned =
    let (share, cross) = chosen_below ℕ (λ i s. (a : ℕ) → a < 16 → pos s *ℤ entry news i a ≡ (pos narrowed.lead *ℤ entry rows i a) -ℤ (gain_at (entry rows i) x y *ℤ entry rows j a)) 16 0
    (λ i l. ((narrowed.each i l).share, (narrowed.each i l).cross)) in
    record {
      times = narrowed.lead * spanned.times;
      some = mul-le-mul narrowed.some spanned.some;
      parts = λ i. spanned.parts i *ℤ pos (share i);
      sums = λ a l.
          spanned_crosses narrowed.lead j x y one two none spanned a l
          ∙ sum_to-agree 16 (grind (arith, mul-assoc));
    }

-- a row of zeros gains nothing
pub gain_at-zero : (rows : List (List ℤ)) (i : ℕ) (x y : List ℕ) → IsWord 16 x → IsWord 16 y → IsZero rows i → gain_at (entry rows i) x y ≡ pos 0
gain_at-zero rows i x y one two none = linear-none (IsLinear-gain x y one two) none

module _ {rows news : List (List ℤ)} {x y : List ℕ} {j : ℕ} (narrowed : IsNarrowed rows x y j news) where
  -- a linear function gives a narrowed row 0 where both parts of the cross come to one number
  linear-cross : {F : (ℕ → ℤ) → ℤ} → IsLinear 16 F → (i : ℕ) → i < 16
      → pos narrowed.lead *ℤ F (entry rows i) ≡ gain_at (entry rows i) x y *ℤ F (entry rows j) → F (entry news i) ≡ pos 0
  linear-cross {F} linear i l same =
      let row = narrowed.each i l in
      let gain : ℤ = gain_at (entry rows i) x y in
      let parts = linear.sub (λ a. pos narrowed.lead *ℤ entry rows i a) (λ a. gain *ℤ entry rows j a) in
      zero-of_times row.share (F (entry news i)) row.positive
      (sym (linear.scaled (pos row.share) (entry news i)) ∙ linear.agree row.cross ∙ parts
      ∙ omega (arith, ints, linear.scaled (pos narrowed.lead) (entry rows i), linear.scaled gain (entry rows j), same))

  -- a linear function gives a narrowed row 0 where both parts of the cross are 0
  pub linear-narrowed : {F : (ℕ → ℤ) → ℤ} → IsLinear 16 F → (i : ℕ) → i < 16 → F (entry rows i) ≡ pos 0
      → gain_at (entry rows i) x y *ℤ F (entry rows j) ≡ pos 0 → F (entry news i) ≡ pos 0
  linear-narrowed linear i l none nothing = linear-cross linear i l (factor-none (pos narrowed.lead) _ none ∙ sym nothing)

  -- narrowed rows gain nothing by the words by which they are narrowed
  pub gain_at-narrowed : IsWord 16 x → IsWord 16 y → (i : ℕ) → i < 16 → gain_at (entry news i) x y ≡ pos 0
  gain_at-narrowed one two i l = linear-cross (IsLinear-gain x y one two) i l (rw narrowed.gains (omega (arith, ints)))

  -- rows of zeros stay so when rows are narrowed
  pub IsZero-narrowed : IsWord 16 x → IsWord 16 y → (i : ℕ) → i < 16 → IsZero rows i → IsZero news i
  IsZero-narrowed one two i l none a h = linear-narrowed (IsLinear-at h) i l (none a h) (zero-factor _ (entry rows j a) (gain_at-zero rows i x y one two none))

  -- the row by which the others are crossed becomes a row of zeros
  pub IsZero-pivot : j < 16 → IsZero news j
  IsZero-pivot l a h = linear-cross (IsLinear-at h) j l (rw narrowed.gains refl)

  -- rows that stand go on standing, where none after row j gains
  pub IsStanding-narrowed : j < 16 → ((i : ℕ) → j < i → i < 16 → gain_at (entry rows i) x y ≡ pos 0) → IsStanding rows j → (i : ℕ) → i < 16 → i ≢ j
      → IsStanding rows i → IsStanding news i
  IsStanding-narrowed within last pivot i l other stands =
      let row = narrowed.each i l in
      let beside : entry rows j i ≡ pos 0 = stands.alone j within (λ e. other (sym e)) in
      let whole : pos row.share *ℤ entry news i i ≡ pos narrowed.lead *ℤ entry rows i i = row.cross i l ∙ rw beside (omega (arith, ints)) in
      let above = positive-of_times row.share (entry news i i) (rw whole (times-positive narrowed.lead (entry rows i i) narrowed.some stands.leads)) in
      record {
        leads = above;
        begins = λ a h.
            linear-narrowed (IsLinear-at (omega arith)) i l (stands.begins a h)
            (⊎_elim
            (λ (before : i < j). factor-none _ _ (pivot.begins a (omega arith)))
            (λ (after : j ≤ i). zero-factor _ (entry rows j a) (last i (omega (arith, other, after)) l))
            (cases_lt i j));
        alone = λ m h apart. linear-narrowed (IsLinear-at l) m h (stands.alone m h apart) (factor-none _ _ beside);
        combined = row.combined i l (λ none. absurd (omega (arith, ints)));
      }
