-- Fewer conditions on integers than there are integers have a small solution that isn't 0 (Siegel 1929, after Thue).
use Rattle.std.proofs.Common.{◌≡◌, ◌≢◌, ℕ, zero, suc, ◌+◌, ◌-◌, ◌*◌, ◌/◌, ◌%◌, ◌<◌, ◌≤◌, List, length, sum_by, ℤ, pos, ◌-ℤ◌, refl, sym, ap, ap₂, ◌∙◌, ⊎_elim, arith, ◌==◌, if◌then◌else◌, unsigned_abs, mul-le-mul, mul-le-mul_right}
use Rattle.std.proofs.Math.Arith.{mod-mul}
use Rattle.word_image.proofs.Common.{but, but_there, cases_eq, cases_lt, ints, nat_tests, sum_by-le, twice_below, same_from_place}
use Rattle.kept_sums.specs.Spans.{gain_at}
use Rattle.kept_sums.proofs.laws.Sums.{sum_at-sub, sum_at-pos}

-- the first number at 0, and the second elsewhere
abbrev pub pick : ℕ → ℕ → ℕ → ℕ
pick g one other = if g == 0 then one else other

-- the product of the first n numbers
unfoldable pub product : ℕ → (ℕ → ℕ) → ℕ
product zero f = 1
product (suc n) f = f n * product n f

-- a product of positive numbers is positive
product-positive : (n : ℕ) (f : ℕ → ℕ) → ((a : ℕ) → 1 ≤ f a) → 1 ≤ product n f
unfolding product
product-positive zero f some = omega arith
product-positive (suc n) f some = mul-le-mul (some n) (product-positive n f some)

-- numbers that are at most products of two have at most the product of both products
product-le : (n : ℕ) (f g h : ℕ → ℕ) → ((a : ℕ) → f a ≤ g a * h a) → product n f ≤ product n g * product n h
unfolding product
product-le zero f g h most = omega arith
product-le (suc n) f g h most = omega (arith, mul-le-mul (most n) (product-le n f g h most))

-- the number with these digits, each below its own base
number : ℕ → (ℕ → ℕ) → (ℕ → ℕ) → ℕ
number zero base digits = 0
number (suc n) base digits = digits n * product n base + number n base digits

-- it is below the product of the bases
number-below : (n : ℕ) (base digits : ℕ → ℕ) → ((a : ℕ) → a < n → digits a < base a) → number n base digits < product n base
unfolding number product
number-below zero base digits below = omega arith
number-below (suc n) base digits below = omega (arith, number-below n base digits (λ a l. below a (omega arith)), mul-le-mul_right (product n base) (below n (omega arith)))

-- one number, one digit at each place
number-digits : (n : ℕ) (base one other : ℕ → ℕ) → ((a : ℕ) → a < n → one a < base a) → ((a : ℕ) → a < n → other a < base a)
    → number n base one ≡ number n base other → (a : ℕ) → a < n → one a ≡ other a
unfolding number
number-digits zero base one other below less same a l = absurd (omega arith)
number-digits (suc n) base one other below less same a l =
    let first = λ (b : ℕ) (h : b < n). below b (omega arith) in
    let second = λ (b : ℕ) (h : b < n). less b (omega arith) in
    let parts = same_from_place (one n) _ (other n) _ (product n base) (number-below n base one first) (number-below n base other second) same in
    ⊎_elim (λ (before : a < n). number-digits n base one other first second parts.1 a before) (λ (most : n ≤ a). let e : a ≡ n = omega arith in rw e parts.0) (cases_lt a n)

-- a digit of a number
abbrev digit : (ℕ → ℕ) → ℕ → ℕ → ℕ
digit base v a = v / product a base % base a

-- numbers that differ apart from multiples of the product differ in a digit
differ : (n : ℕ) (base : ℕ → ℕ) → ((a : ℕ) → 1 ≤ base a) → (v u : ℕ) → v % product n base ≢ u % product n base
    → (a : ℕ) × (a < n) × (digit base v a ≢ digit base u a)
unfolding product
differ zero base some v u other = absurd (other (omega arith))
differ (suc n) base some v u other =
    ⊎_elim
    (λ (same : digit base v n ≡ digit base u n).
    let positive = product-positive n base some in
    let rest = differ n base some v u (λ e. other (mod-mul v (some n) positive ∙ ap₂ (λ (x y : ℕ). x * product n base + y) same e ∙ sym (mod-mul u (some n) positive))) in
    (rest.0, omega (arith, rest.1), rest.2))
    (λ (differs : digit base v n ≢ digit base u n). (n, omega arith, differs))
    (cases_eq (digit base v n) (digit base u n))

-- a number for what the first word weighs more
abbrev code : ℕ → (ℕ → ℕ) → List ℕ → List ℕ → ℕ
code top w x y = sum_by w x + (top - sum_by w y)

-- one code, one gain
gain-code : (h t : ℕ) (w v : ℕ → ℕ) → ((a : ℕ) → w a ≤ t) → ((a : ℕ) → v a ≤ t) → (x y : List ℕ) → length y ≤ h
    → code (h * t) w x y ≡ code (h * t) v x y
    → gain_at (λ a. pos (w a) -ℤ pos (v a)) x y ≡ pos 0
gain-code h t w v one two x y short same =
    omega (arith, ints, sum_at-sub (λ a. pos (w a)) (λ a. pos (v a)) x, sum_at-sub (λ a. pos (w a)) (λ a. pos (v a)) y, sum_by-le w t y (λ i d l. one _), sum_by-le v t y (λ i d l. two _), mul-le-mul_right t short, sum_at-pos w x, sum_at-pos w y, sum_at-pos v x, sum_at-pos v y, same)

-- a code is below its base
code-below : (g h t one other : ℕ) → (1 ≤ g → one ≤ h * t) → pick g 0 (one + (h * t - other)) < 2 * h * pick g 0 t + 1
code-below g h t one other most = grind (arith, nat_tests)

-- the numbers that stand at a place are at most t
pick-most : (g t : ℕ) → pick g 0 t ≤ t
pick-most g t = grind (arith, nat_tests)

-- one number picked, one number
picked : (g one other : ℕ) → 1 ≤ g → pick g 0 one ≡ pick g 0 other → one ≡ other
picked g one other noted e = grind (arith, nat_tests)

-- a small solution that isn't 0 of the conditions of the places where g isn't 0: 0 but there and at place i
pub record SmallSolution (n i : ℕ) (g : ℕ → ℕ) (x y : ℕ → List ℕ) (most : ℕ) : Type 0 where
  pub weight : ℕ → ℤ
  pub small : (a : ℕ) → unsigned_abs (weight a) ≤ most
  pub outside : (a : ℕ) → a ≢ i → g a ≡ 0 → weight a ≡ pos 0
  pub place : ℕ
  pub within : place < n
  pub some : weight place ≢ pos 0
  pub solves : (a : ℕ) → a < n → 1 ≤ g a → gain_at weight (x a) (y a) ≡ pos 0

-- weights that are the digits of a number, and at place i what is left of it
abbrev weights : ℕ → ℕ → (ℕ → ℕ) → ℕ → ℕ → ℕ
weights n i base v = but (digit base v) i (v / product n base)

-- of numbers below t + 1 times the product the weights are at most t
weights-most : (n i t v a : ℕ) (base : ℕ → ℕ) → ((b : ℕ) → 1 ≤ base b) → ((b : ℕ) → base b ≤ t + 1) → v < (t + 1) * product n base
    → weights n i base v a ≤ t
weights-most n i t v a base some few less = grind arith

-- different numbers have different weights, where place i has no digit
weights-differ : (n i : ℕ) (base : ℕ → ℕ) (v u : ℕ) → i < n → ((a : ℕ) → 1 ≤ base a) → base i ≡ 1 → u < v
    → (a : ℕ) × (a < n) × (weights n i base v a ≢ weights n i base u a)
weights-differ n i base v u l some one order =
    ⊎_elim
    (λ (equal : v / product n base ≡ u / product n base).
    let found = differ n base some v u (λ rest. absurd (omega (arith, ap (λ m. product n base * m) equal))) in
    grind arith)
    (λ (other : v / product n base ≢ u / product n base). (i, l, λ e. other (sym (but_there (digit base v) i _ i refl) ∙ e ∙ but_there (digit base u) i _ i refl)))
    (cases_eq (v / product n base) (u / product n base))

-- conditions of words of at most h letters, one for each place where g isn't 0, have a solution there and at one place more
pub small_solution : (n h i limit : ℕ) (g : ℕ → ℕ) (x y : ℕ → List ℕ) → i < n → 1 ≤ h → g i ≡ 0
    → ((a : ℕ) → a < n → 1 ≤ g a → (length (x a) ≤ h) × (length (y a) ≤ h))
    → product n (λ a. pick (g a) 1 (2 * h)) ≤ limit → SmallSolution n i g x y limit
small_solution n h i limit g x y l some none short enough =
    let t : ℕ = product n (λ a. pick (g a) 1 (2 * h)) in
    let base : ℕ → ℕ = λ a. pick (g a) 0 t + 1 in
    let top : ℕ → ℕ = λ a. 2 * h * pick (g a) 0 t + 1 in
    let all : ℕ = (t + 1) * product n base in
    let w : ℕ → ℕ → ℕ = weights n i base in
    let codes : ℕ → ℕ → ℕ = λ v a. pick (g a) 0 (code (h * t) (w v) (x a) (y a)) in
    let some_base : (a : ℕ) → 1 ≤ base a = λ a. omega arith in
    let no_digit : base i ≡ 1 = ap (λ m. pick m 0 t + 1) none in
    let most : (v a : ℕ) → v < all → w v a ≤ t = λ v a. weights-most n i t v a base some_base (λ b. omega (arith, pick-most (g b) t)) in
    let below : (v : ℕ) → v < all → (a : ℕ) → a < n → codes v a < top a = λ v less a k.
    code-below (g a) h t _ _ (λ noted. omega (arith, sum_by-le (w v) t (x a) (λ m d j. most v _ less), mul-le-mul_right t (short a k noted).0)) in
    let fewer : product n top < all = grind (arith, product-positive, product-le) in
    let (u, v, order, last, same) = twice_below (product n top) (λ m. number n top (codes m)) (λ m k. number-below n top (codes m) (below m (omega arith))) in
    let v_within : v < all = omega arith in
    let u_within : u < all = omega arith in
    let differs = weights-differ n i base v u l some_base no_digit order in
    record {
      weight = λ a. pos (w v a) -ℤ pos (w u a);
      small = λ a. omega (arith, ints, most v a v_within, most u a u_within);
      outside = grind arith;
      place = differs.0;
      within = differs.1;
      some = λ nothing. differs.2 (omega (arith, ints));
      solves = λ a k noted.
          let digits = number-digits n top (codes u) (codes v) (below u u_within) (below v v_within) same a k in
          gain-code h t (w v) (w u) (λ b. most v b v_within) (λ b. most u b u_within) (x a) (y a) (short a k noted).1 (picked (g a) _ _ noted (sym digits));
    }
