-- How many of the numbers below a bound pass a test, and which they are.
use Rattle.std.proofs.Common.{◌≡◌, ℕ, zero, suc, ◌+◌, ◌-◌, ◌<◌, ◌≤◌, Bool, true, false, ltb, lt-ltb, if◌then◌else◌, refl, ap, ap₂, ⊎_elim, arith, rules}
use Rattle.word_image.proofs.Common.{from_bool, cases_lt}
use Rattle.garden_laws.specs.ZeroPairs.{count_below}

-- no number below 0 passes a test
pub count_below-none : (p : ℕ → Bool) → count_below p 0 ≡ 0
unfolding count_below
count_below-none p = refl

-- one number more is counted if it passes
pub count_below-more : (p : ℕ → Bool) (n : ℕ) → count_below p (n + 1) ≡ count_below p n + from_bool (p n)
unfolding count_below
count_below-more p n = let e : n + 1 ≡ suc n = omega arith in ap (count_below p) e

-- below a greater bound no fewer numbers pass
count_below-le : (p : ℕ → Bool) (i d : ℕ) → count_below p i ≤ count_below p (i + d)
count_below-le p i zero = let e : i + 0 ≡ i = omega arith in omega (arith, ap (count_below p) e)
count_below-le p i (suc d) =
    let e : i + suc d ≡ i + d + 1 = omega arith in
    omega (arith, count_below-le p i d, ap (count_below p) e, count_below-more p (i + d))

-- below a greater bound more numbers pass, if one between them passes
count_below-less : (p : ℕ → Bool) (i j : ℕ) → p i ≡ true → i < j → count_below p i < count_below p j
count_below-less p i j passes less =
    let back : i + 1 + (j - (i + 1)) ≡ j = omega arith in
    omega (arith, count_below-more p i, ap from_bool passes, count_below-le p (i + 1) (j - (i + 1)), ap (count_below p) back)

-- two numbers that pass, with as many before them, are one
count_below-injective : (p : ℕ → Bool) (i j : ℕ) → p i ≡ true → p j ≡ true → count_below p i ≡ count_below p j → i ≡ j
count_below-injective p i j hi hj e = grind (arith, count_below-less, cases_lt)

-- the number that passes with i before it, if one below n does
abbrev pub nth : (ℕ → Bool) → ℕ → ℕ → ℕ
nth p zero i = 0
nth p (suc n) i = if ltb i (count_below p n) then nth p n i else n

-- if more than i numbers below n pass, one passes with i before it
pub nth-passes : (p : ℕ → Bool) (n i : ℕ) → i < count_below p n → (nth p n i < n) × (p (nth p n i) ≡ true) × (count_below p (nth p n i) ≡ i)
unfolding count_below
nth-passes p zero i l = absurd (omega arith)
nth-passes p (suc n) i l =
    ⊎_elim
    (λ before. let is = nth-passes p n i before in rw (lt-ltb i (count_below p n) before) (omega arith, is.1, is.2))
    (λ none. grind arith)
    (cases_lt i (count_below p n))

-- a number that passes has as many before it as its place says, and comes back from there
pub nth-place : (p : ℕ → Bool) (n a : ℕ) → a < n → p a ≡ true → (count_below p a < count_below p n) × (nth p n (count_below p a) ≡ a)
nth-place p n a l passes = search (rules, count_below-less, nth-passes, count_below-injective)

-- of two tests that agree as many numbers pass the one as the other
pub count_below-agree : (p q : ℕ → Bool) (n : ℕ) → ((a : ℕ) → a < n → p a ≡ q a) → count_below p n ≡ count_below q n
unfolding count_below
count_below-agree p q zero same = refl
count_below-agree p q (suc n) same = ap₂ (λ i b. i + from_bool b) (count_below-agree p q n (λ a l. same a (omega arith))) (same n (omega arith))

-- of a test that no number passes the count is 0
pub count_below-never : (p : ℕ → Bool) (n : ℕ) → ((a : ℕ) → a < n → p a ≡ false) → count_below p n ≡ 0
unfolding count_below
count_below-never p zero fails = refl
count_below-never p (suc n) fails = omega (arith, count_below-never p n (λ a l. fails a (omega arith)), ap from_bool (fails n (omega arith)))

-- the count of two parts is the sum of the counts of both
pub count_below-add : (p : ℕ → Bool) (n d : ℕ) → count_below p (n + d) ≡ count_below p n + count_below (λ a. p (n + a)) d
count_below-add p n zero = let e : n + 0 ≡ n = omega arith in omega (arith, ap (count_below p) e, count_below-none (λ a. p (n + a)))
count_below-add p n (suc d) =
    let e : n + suc d ≡ n + d + 1 = omega arith in
    let f : suc d ≡ d + 1 = omega arith in
    omega (arith, ap (count_below p) e, count_below-more p (n + d), count_below-add p n d, ap (count_below (λ a. p (n + a))) f, count_below-more (λ a. p (n + a)) d)

-- if a test passes where one of two others does, and those never pass both, its count is the sum of their counts
pub count_below-split : (p q s : ℕ → Bool) (n : ℕ) → ((a : ℕ) → from_bool (s a) ≡ from_bool (p a) + from_bool (q a))
    → count_below s n ≡ count_below p n + count_below q n
unfolding count_below
count_below-split p q s zero each = refl
count_below-split p q s (suc n) each = omega (arith, count_below-split p q s n each, each n)

-- all numbers are counted if all pass
pub count_below-all : (p : ℕ → Bool) (n : ℕ) → ((a : ℕ) → a < n → p a ≡ true) → count_below p n ≡ n
unfolding count_below
count_below-all p zero passes = refl
count_below-all p (suc n) passes = omega (arith, count_below-all p n (λ a l. passes a (omega arith)), ap from_bool (passes n (omega arith)))
