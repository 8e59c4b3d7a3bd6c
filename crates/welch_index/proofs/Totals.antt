-- Sums over the numbers below a bound, and signs of numbers: 0 or 1.
use Rattle.std.proofs.Common.{◌≡◌, ℕ, zero, suc, ◌+◌, ◌*◌, ◌<◌, ◌≤◌, inl, inr, ◌==◌, refl, sym, ap, ◌∙◌, subst, ⊎_elim, arith}
use Rattle.word_image.proofs.Common.{cases_eq, cases_lt, some_below, from_bool}

-- the sum of the numbers f i for all i below n
abbrev pub total : (ℕ → ℕ) → ℕ → ℕ
total f zero = 0
total f (suc n) = total f n + f n

pub total-le : (f g : ℕ → ℕ) (n : ℕ) → ((i : ℕ) → i < n → f i ≤ g i) → total f n ≤ total g n
total-le f g zero each = omega arith
total-le f g (suc n) each = omega (arith, total-le f g n (λ i l. each i (omega arith)), each n (omega arith))

pub total-same : (f g : ℕ → ℕ) (n : ℕ) → ((i : ℕ) → i < n → f i ≡ g i) → total f n ≡ total g n
total-same f g zero each = refl
total-same f g (suc n) each = omega (arith, total-same f g n (λ i l. each i (omega arith)), each n (omega arith))

pub total-add : (f g : ℕ → ℕ) (n : ℕ) → total (λ i. f i + g i) n ≡ total f n + total g n
total-add f g zero = omega arith
total-add f g (suc n) = omega (arith, total-add f g n)

pub total-mul : (c : ℕ) (f : ℕ → ℕ) (n : ℕ) → total (λ i. c * f i) n ≡ c * total f n
total-mul c f zero = omega arith
total-mul c f (suc n) = grind (arith, total-mul c f n)

pub total-const : (c n : ℕ) → total (λ i. c) n ≡ n * c
total-const c zero = omega arith
total-const c (suc n) = let more : suc n * c ≡ n * c + c = omega arith in omega (arith, total-const c n, more)

pub total-swap : (h : ℕ → ℕ → ℕ) (n m : ℕ) → total (λ i. total (λ j. h i j) m) n ≡ total (λ j. total (λ i. h i j) n) m
total-swap h zero m = omega (arith, total-const 0 m)
total-swap h (suc n) m = omega (arith, total-swap h n m, total-add (λ j. total (λ i. h i j) n) (λ j. h n j) m)

pub total-term : (f : ℕ → ℕ) (i n : ℕ) → i < n → f i ≤ total f n
total-term f i zero l = absurd (omega arith)
total-term f i (suc n) l =
    ⊎_elim (λ (same : i ≡ n). omega (arith, ap f same)) (λ other. omega (arith, total-term f i n (omega (arith, other)))) (cases_eq i n)

pub total-some : (f : ℕ → ℕ) (n : ℕ) → 0 < total f n → (i : ℕ) × (i < n) × (0 < f i)
total-some f zero some = absurd (omega arith)
total-some f (suc n) some =
    ⊎_elim (λ last. (n, omega arith, last)) (λ none. let found = total-some f n (omega arith) in (found.0, omega (arith, found.1), found.2)) (cases_lt 0 (f n))

-- if no term is greater than that of a lesser or equal sum, the terms are equal
pub total-equal : (f g : ℕ → ℕ) (n : ℕ) → ((i : ℕ) → i < n → f i ≤ g i) → total g n ≤ total f n → (i : ℕ) → i < n → f i ≡ g i
total-equal f g zero each no_more i l = absurd (omega arith)
total-equal f g (suc n) each no_more i l =
    let before = total-le f g n (λ j h. each j (omega arith)) in
    let last = each n (omega arith) in
    ⊎_elim
    (λ (same : i ≡ n). subst (λ j. f j ≡ g j) (sym same) (omega (arith, before, last)))
    (λ other. total-equal f g n (λ j h. each j (omega arith)) (omega (arith, before, last)) i (omega (arith, other)))
    (cases_eq i n)

-- some term is no greater than the mean
pub total-least : (f : ℕ → ℕ) (n : ℕ) → 0 < n → (i : ℕ) × (i < n) × (n * f i ≤ total f n)
total-least f n some =
    ⊎_elim
    (λ found. found)
    (λ none.
    let t = total f n in
    let more = total-le (λ i. t + 1) (λ i. n * f i) n (λ i l. ⊎_elim (λ less. omega (arith, less)) (λ le. absurd (none i l le)) (cases_lt t (n * f i))) in
    let all : n * (t + 1) ≡ n * t + n = grind arith in
    absurd (omega (arith, more, total-const (t + 1) n, total-mul n f n, all, some)))
    (some_below (λ i. n * f i ≤ total f n) (λ i. ⊎_elim (λ less. inr (λ le. omega (arith, less, le))) (λ le. inl le) (cases_lt (total f n) (n * f i))) n)

pub total-append : (f : ℕ → ℕ) (n d : ℕ) → total f (n + d) ≡ total f n + total (λ j. f (n + j)) d
total-append f n zero = let e : n + 0 ≡ n = omega arith in ap (total f) e ∙ omega arith
total-append f n (suc d) = let e : n + suc d ≡ suc (n + d) = omega arith in ap (total f) e ∙ omega (arith, total-append f n d)

pub total-product : (f : ℕ → ℕ) (a b : ℕ) → total f (a * b) ≡ total (λ i. total (λ j. f (i * b + j)) b) a
total-product f zero b = let e : 0 * b ≡ 0 = omega arith in ap (total f) e
total-product f (suc a) b = let e : suc a * b ≡ a * b + b = omega arith in ap (total f) e ∙ omega (arith, total-append f (a * b) b, total-product f a b)

-- of numbers that are at most 1, if at most one is 1, the sum is at most 1
pub total-one : (f : ℕ → ℕ) (n : ℕ) → ((i : ℕ) → i < n → f i ≤ 1) → ((i j : ℕ) → i < n → j < n → 0 < f i → 0 < f j → i ≡ j) → total f n ≤ 1
total-one f zero most one = omega arith
total-one f (suc n) most one =
    let before = total-one f n (λ i l. most i (omega (arith, l))) (λ i j hi hj. one i j (omega (arith, hi)) (omega (arith, hj))) in
    ⊎_elim
    (λ last. ⊎_elim
    (λ some. let found = total-some f n some in let same = one found.0 n (omega (arith, found.1)) (omega arith) found.2 last in absurd (omega (arith, same, found.1)))
    (λ none. omega (arith, none, most n (omega arith)))
    (cases_lt 0 (total f n)))
    (λ none. omega (arith, none, before))
    (cases_lt 0 (f n))

-- 1 at the place t, and 0 at all others
abbrev pub at_place : ℕ → ℕ → ℕ
at_place t i = from_bool (i == t)

-- 0 for 0, and 1 for all other numbers
abbrev pub sign : ℕ → ℕ
sign zero = 0
sign (suc n) = 1

pub sign-most : (n : ℕ) → sign n ≤ 1
sign-most zero = omega arith
sign-most (suc n) = omega arith

pub sign-some : (n : ℕ) → 0 < n → sign n ≡ 1
sign-some zero some = absurd (omega arith)
sign-some (suc n) some = refl

pub some-sign : (n : ℕ) → 0 < sign n → 0 < n
some-sign zero some = absurd (omega arith)
some-sign (suc n) some = omega arith

pub sign-add : (a b : ℕ) → sign (a + b) ≤ sign a + sign b
sign-add zero b = let e : 0 + b ≡ b = omega arith in omega (arith, ap sign e)
sign-add (suc a) b = omega (arith, sign-most (suc a + b))

pub sign-mul : (c y : ℕ) → sign (c * y) ≤ c * sign y
sign-mul c zero = let e : c * 0 ≡ 0 = omega arith in omega (arith, ap sign e)
sign-mul zero (suc y) = let e : 0 * suc y ≡ 0 = omega arith in omega (arith, ap sign e)
sign-mul (suc c) (suc y) = omega (arith, sign-most (suc c * suc y))

pub sign-mono : (a b : ℕ) → (0 < a → 0 < b) → sign a ≤ sign b
sign-mono zero b more = omega arith
sign-mono (suc a) b more = omega (arith, sign-some b (more (omega arith)))

pub sign-total : (f : ℕ → ℕ) (n : ℕ) → sign (total f n) ≤ total (λ i. sign (f i)) n
sign-total f zero = omega arith
sign-total f (suc n) = omega (arith, sign-total f n, sign-add (total f n) (f n))
