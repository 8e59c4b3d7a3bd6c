-- Numbers whose size is bounded, and that casts leave as they are.
use Rattle.std.proofs.Common.{◌≡◌, ℕ, ◌*◌, ◌^◌, ◌<◌, ◌≤◌, ℤ, ◌-ℤ◌, ◌*ℤ◌, to_z, of_z, w64, arith, unsigned_abs, mul-le-mul}
use Rattle.std.proofs.lemmas.Int.{to_z-of_z}
use Rattle.word_image.proofs.Common.{ints, fits_signed_from_abs, unsigned_abs-mul}
use mir.Syntax.{Width}
use mir.Val.{hbits}

-- a cast leaves a number that fits as it is
pub back : (w : Width) (z : ℤ) (n : ℕ) → unsigned_abs z ≤ n → n < 2 ^ hbits w → to_z w (of_z w z) ≡ z
back w z n most l = to_z-of_z w z (fits_signed_from_abs w z (omega arith))

-- the size of a product, by bounds of both sizes
pub abs-mul : (a b : ℤ) (m n : ℕ) → unsigned_abs a ≤ m → unsigned_abs b ≤ n → unsigned_abs (a *ℤ b) ≤ m * n
abs-mul a b m n one two = let product = mul-le-mul one two in omega (arith, unsigned_abs-mul a b, product)

-- casts leave a difference of two numbers as it is, where they leave these so
pub back-sub : (a b : ℤ) → unsigned_abs a ≤ 2 ^ 60 → unsigned_abs b ≤ 2 ^ 60
    → to_z w64 (of_z w64 (to_z w64 (of_z w64 a) -ℤ to_z w64 (of_z w64 b))) ≡ a -ℤ b
back-sub a b one two = omega (arith, ints)
