-- Sums of weights over words are linear in the weights, and so is what two words gain.
use Rattle.std.proofs.Common.{◌≡◌, ℕ, zero, suc, ◌<◌, List, [], ◌∷◌, ◌++◌, sum_by, ℤ, pos, ◌+ℤ◌, ◌-ℤ◌, ◌*ℤ◌, refl, ap₂, ◌∙◌, arith}
use Rattle.word_image.proofs.Common.{ints, sum_by-cons, All-tail, IsWord}
use Rattle.kept_sums.specs.Sums.{sum_at, sum_to}
use Rattle.kept_sums.specs.Spans.{gain_at}
use Rattle.kept_sums.proofs.laws.Integers.{mul-add, mul-sub}

-- weights that agree on the letters of a word give it one sum
sum_at-agree : {k : ℕ} {f g : ℕ → ℤ} → ((a : ℕ) → a < k → f a ≡ g a) → (w : List ℕ) → IsWord k w → sum_at f w ≡ sum_at g w
sum_at-agree agree [] word = refl
sum_at-agree {k} {f} {g} agree (a ∷ w) word = ap₂ (λ (x y : ℤ). x +ℤ y) (agree a (word 0 0 (omega arith))) (sum_at-agree agree w (All-tail (λ b. b < k) a w word))

-- what multiples of weights come to
sum_at-scaled : (x : ℤ) (f : ℕ → ℤ) (w : List ℕ) → sum_at (λ a. x *ℤ f a) w ≡ x *ℤ sum_at f w
sum_at-scaled x f [] = omega (arith, ints)
sum_at-scaled x f (a ∷ w) = omega (arith, ints, sum_at-scaled x f w, mul-add x (f a) (sum_at f w))

-- what differences of weights come to
pub sum_at-sub : (f g : ℕ → ℤ) (w : List ℕ) → sum_at (λ a. f a -ℤ g a) w ≡ sum_at f w -ℤ sum_at g w
sum_at-sub f g [] = omega (arith, ints)
sum_at-sub f g (a ∷ w) = omega (arith, ints, sum_at-sub f g w)

-- sums of numbers from 0 on, as integers
pub sum_at-pos : (weight : ℕ → ℕ) (w : List ℕ) → sum_at (λ a. pos (weight a)) w ≡ pos (sum_by weight w)
sum_at-pos weight [] = refl
sum_at-pos weight (a ∷ w) = omega (arith, ints, sum_at-pos weight w, sum_by-cons weight a w)

-- a function of weights that takes multiples to multiples and differences to differences, and looks at the weights below k alone
pub record IsLinear (k : ℕ) (F : (ℕ → ℤ) → ℤ) : Type 0 where
  pub agree : {f g : ℕ → ℤ} → ((a : ℕ) → a < k → f a ≡ g a) → F f ≡ F g
  pub scaled : (x : ℤ) (f : ℕ → ℤ) → F (λ a. x *ℤ f a) ≡ x *ℤ F f
  pub sub : (f g : ℕ → ℤ) → F (λ a. f a -ℤ g a) ≡ F f -ℤ F g

-- the weight of one word is linear
pub IsLinear-at : {k a : ℕ} → a < k → IsLinear k (λ f. f a)
IsLinear-at {a = a} l = record { agree = λ same. same a l; scaled = λ x f. refl; sub = λ f g. refl }

-- what two words gain is linear
pub IsLinear-gain : {k : ℕ} (x y : List ℕ) → IsWord k x → IsWord k y → IsLinear k (λ f. gain_at f x y)
IsLinear-gain x y one two = record {
  agree = λ same. ap₂ (λ (u v : ℤ). u -ℤ v) (sum_at-agree same x one) (sum_at-agree same y two);
  scaled = λ n f. omega (arith, ints, sum_at-scaled n f x, sum_at-scaled n f y, mul-sub n (sum_at f x) (sum_at f y));
  sub = λ f g. omega (arith, ints, sum_at-sub f g x, sum_at-sub f g y);
}

-- what is linear is 0 at weights of 0
pub linear-none : {k : ℕ} {F : (ℕ → ℤ) → ℤ} → IsLinear k F → {f : ℕ → ℤ} → ((a : ℕ) → a < k → f a ≡ pos 0) → F f ≡ pos 0
linear-none linear {f} none = linear.agree {g = λ a. pos 0 *ℤ f a} (λ a l. omega (arith, ints, none a l)) ∙ linear.scaled (pos 0) f ∙ omega (arith, ints)

-- what is linear takes combinations to combinations
pub linear-sum_to : {k : ℕ} {F : (ℕ → ℤ) → ℤ} → IsLinear k F → (n : ℕ) (parts : ℕ → ℤ) (rows : ℕ → ℕ → ℤ)
    → F (λ a. sum_to n (λ i. parts i *ℤ rows i a)) ≡ sum_to n (λ i. parts i *ℤ F (rows i))
unfolding sum_to
linear-sum_to linear zero parts rows = linear-none linear (λ a l. refl)
linear-sum_to linear (suc n) parts rows =
    let before : ℕ → ℤ = λ a. sum_to n (λ i. parts i *ℤ rows i a) in
    let last : ℕ → ℤ = λ a. parts n *ℤ rows n a in
    let back = linear.agree {f = λ a. (before a +ℤ last a) -ℤ last a} {g = before} (λ a l. omega (arith, ints)) in
    omega (arith, ints, back, linear.sub (λ a. before a +ℤ last a) last, linear.scaled (parts n) (rows n), linear-sum_to linear n parts rows)

-- the sum over a word with one letter more
pub sum_at-snoc : (f : ℕ → ℤ) (w : List ℕ) (a : ℕ) → sum_at f (w ++ a ∷ []) ≡ sum_at f w +ℤ f a
sum_at-snoc f [] a = omega (arith, ints)
sum_at-snoc f (b ∷ w) a = omega (arith, ints, sum_at-snoc f w a)
