-- Greatest common divisors are integer combinations, and what that says of multiples of rows.
use Rattle.std.proofs.Common.{◌≡◌, ℕ, suc, ◌+◌, ◌*◌, ◌<◌, ◌≤◌, List, ℤ, pos, ◌+ℤ◌, ◌*ℤ◌, sym, ap, ap₂, ◌∙◌, arith, ◌==◌, if◌then◌else◌, ne_eqb, unsigned_abs}
use Rattle.std.proofs.Math.IntN.{pos-*ℤ-pos}
use Rattle.word_image.proofs.Common.{cond-false, ints, unsigned_abs-mul}
use Rattle.kept_sums.specs.Sums.{sum_to}
use Rattle.kept_sums.specs.Rows.{at, IsCombined, IsCombinedOf}
use Rattle.kept_sums.proofs.laws.Integers.{mul-assoc, mul-swap}
use Rattle.kept_sums.proofs.laws.Spans.{sum_to-agree, sum_to-scaled}

-- one number more
pub IsCombined-more : (n : ℕ) (row : List ℤ) (old entry g : ℕ) → entry ≡ unsigned_abs (at row n) → IsCombined n row old → IsCombinedOf old entry g
    → IsCombined (n + 1) row g
unfolding sum_to
IsCombined-more n row old entry g size combined both =
    let parts : ℕ → ℤ = λ a. if a == n then both.second else (both.first *ℤ combined.parts a) in
    let value : ℕ → ℤ = λ a. pos (unsigned_abs (at row a)) in
    let next : n + 1 ≡ suc n = omega arith in
    let front : sum_to n (λ a. parts a *ℤ value a) ≡ both.first *ℤ pos old =
    sum_to-agree n (λ a l. ap (λ (x : ℤ). x *ℤ value a) (cond-false (a == n) _ _ (ne_eqb a n (λ e. omega arith))) ∙ mul-assoc both.first (combined.parts a) (value a))
    ∙ sum_to-scaled n both.first (λ a. combined.parts a *ℤ value a)
    ∙ ap (λ (x : ℤ). both.first *ℤ x) combined.is in
    let last : parts n *ℤ value n ≡ both.second *ℤ pos entry = grind arith in
    record { parts = parts; is = ap (λ m. sum_to m (λ a. parts a *ℤ value a)) next ∙ ap₂ (λ (x y : ℤ). x +ℤ y) front last ∙ both.is }

-- where multiples of numbers are multiples of others, so are their combinations
multiple_sum : (u : ℕ → ℤ) (f g : ℕ → ℕ) (t s : ℕ) → ((a : ℕ) → a < 16 → t * f a ≡ s * g a)
    → pos t *ℤ sum_to 16 (λ a. u a *ℤ pos (f a)) ≡ pos s *ℤ sum_to 16 (λ a. u a *ℤ pos (g a))
multiple_sum u f g t s same =
    sym (sum_to-scaled 16 (pos t) (λ a. u a *ℤ pos (f a)))
    ∙ sum_to-agree 16 (λ a l. mul-swap (pos t) (u a) (pos (f a)) ∙ ap (λ (z : ℤ). u a *ℤ z) (pos-*ℤ-pos t (f a) ∙ ap pos (same a l) ∙ sym (pos-*ℤ-pos s (g a))) ∙ mul-swap (u a) (pos s) (pos (g a)))
    ∙ sum_to-scaled 16 (pos s) (λ a. u a *ℤ pos (g a))

-- where multiples of a row's sizes are multiples of other numbers, so is what is combined of the row
pub multiple_of : (row : List ℤ) (c t s : ℕ) (g : ℕ → ℕ) → IsCombined 16 row c → 1 ≤ t * c
    → ((a : ℕ) → a < 16 → t * unsigned_abs (at row a) ≡ s * g a) → (q : ℕ) × (1 ≤ q) × (t * c ≡ s * q)
multiple_of row c t s g combined some same =
    let y : ℤ = sum_to 16 (λ a. combined.parts a *ℤ pos (g a)) in
    let whole : pos (t * c) ≡ pos s *ℤ y =
    ap (λ (z : ℤ). pos t *ℤ z) (sym combined.is) ∙ multiple_sum combined.parts (λ a. unsigned_abs (at row a)) g t s same in
    grind arith

-- what is combined of the whole is combined of the parts
pub IsCombined-divided : (cross row : List ℤ) (g : ℕ) → 1 ≤ g → ((a : ℕ) → a < 16 → pos g *ℤ at row a ≡ at cross a) → IsCombined 16 cross g
    → IsCombined 16 row 1
IsCombined-divided cross row g some multiple combined =
    let u : ℕ → ℤ = combined.parts in
    let total : ℤ = sum_to 16 (λ a. u a *ℤ pos (unsigned_abs (at row a))) in
    let same = multiple_sum u (λ a. unsigned_abs (at cross a)) (λ a. unsigned_abs (at row a)) 1 g (λ a l. omega (arith, ap unsigned_abs (multiple a l), unsigned_abs-mul (pos g) (at row a))) in
    grind (arith, ints)
