-- Rings of integers: products over sums, and that a product is zero only where a factor is.
use Rattle.std.proofs.Common.{◌≡◌, ◌≢◌, ℕ, zero, suc, ◌*◌, ◌<◌, ◌≤◌, ℤ, pos, negsuc, ◌+ℤ◌, ◌-ℤ◌, ◌*ℤ◌, ◌<ℤ◌, refl, sym, ap, ◌∙◌, arith, unsigned_abs, mul-le-mul_left, mul-le-mul_right}
use Rattle.std.proofs.Math.IntN.{*ℤ_comm}
use Rattle.word_image.proofs.Common.{ints, unsigned_abs-mul}
use borrow.Author.Differences.{up, down, same_in, sum_is_lem, product_is}

-- a product with a sum
pub mul-add : (x a b : ℤ) → x *ℤ (a +ℤ b) ≡ (x *ℤ a) +ℤ (x *ℤ b)
mul-add x a b = omega (arith, ints, ap (λ (n : ℕ). up x * n) (sum_is_lem a b), ap (λ (n : ℕ). down x * n) (sum_is_lem a b))

-- a product with a difference
pub mul-sub : (x a b : ℤ) → x *ℤ (a -ℤ b) ≡ (x *ℤ a) -ℤ (x *ℤ b)
mul-sub x a b = let back : (a -ℤ b) +ℤ b ≡ a = omega (arith, ints) in omega (arith, ints, mul-add x (a -ℤ b) b, ap (λ (z : ℤ). x *ℤ z) back)

-- the product of three numbers, from either end
pub mul-assoc : (a b c : ℤ) → (a *ℤ b) *ℤ c ≡ a *ℤ (b *ℤ c)
mul-assoc a b c = same_in _ _ (simp (λ (u v : ℤ). (product_is u v).0, λ (u v : ℤ). (product_is u v).1) (omega arith))

-- two factors change places
pub mul-swap : (a b c : ℤ) → a *ℤ (b *ℤ c) ≡ b *ℤ (a *ℤ c)
mul-swap a b c = sym (mul-assoc a b c) ∙ ap (λ (x : ℤ). x *ℤ c) (*ℤ_comm a b) ∙ mul-assoc b a c

-- a positive number times a number that isn't 0 isn't 0
pub zero-of_times : (n : ℕ) (x : ℤ) → 1 ≤ n → pos n *ℤ x ≡ pos 0 → x ≡ pos 0
zero-of_times n x some e = omega (arith, ints, mul-le-mul_right (unsigned_abs x) some, unsigned_abs-mul (pos n) x, ap unsigned_abs e)

-- a product that is 0, with a number that isn't
pub other_factor : (c x : ℤ) → x ≢ pos 0 → c *ℤ x ≡ pos 0 → c ≡ pos 0
other_factor c x some e = zero-of_times (unsigned_abs x) c (omega (arith, ints)) (omega (arith, ints, unsigned_abs-mul c x, unsigned_abs-mul (pos (unsigned_abs x)) c, ap unsigned_abs e))

-- a product of 0 is 0
pub zero-factor : (c x : ℤ) → c ≡ pos 0 → c *ℤ x ≡ pos 0
zero-factor c x none = rw none (omega (arith, ints))

-- a product with 0 is 0
pub factor-none : (c x : ℤ) → x ≡ pos 0 → c *ℤ x ≡ pos 0
factor-none c x none = rw none (omega (arith, ints))

-- a number of which a multiple is positive is positive
pub positive-of_times : (n : ℕ) (x : ℤ) → pos 0 <ℤ (pos n *ℤ x) → pos 0 <ℤ x
positive-of_times n (pos zero) h = absurd (omega (arith, ints))
positive-of_times n (pos (suc a)) h = omega (arith, ints)
positive-of_times n (negsuc a) h = absurd (omega (arith, ints))

-- a positive multiple of a positive number is positive
pub times-positive : (n : ℕ) (x : ℤ) → 1 ≤ n → pos 0 <ℤ x → pos 0 <ℤ (pos n *ℤ x)
times-positive n x some above = let more : down x < up x = omega (arith, ints) in omega (arith, ints, mul-le-mul_left n more)

-- a positive number
pub positive_is : (z : ℤ) → pos 0 <ℤ z → (n : ℕ) × (1 ≤ n) × (z ≡ pos n)
positive_is (pos zero) above = absurd (omega (arith, ints, above))
positive_is (pos (suc n)) above = (suc n, omega arith, refl)
positive_is (negsuc n) above = absurd (omega (arith, ints, above))
