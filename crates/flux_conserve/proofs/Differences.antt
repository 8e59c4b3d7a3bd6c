-- The test of a difference of numbers of 32 bits.
use Rattle.std.proofs.Common.{◌≡◌, ◌-ℤ◌, ◌↔◌, nat_eq, IsTrue, ℤ, w32, w64, FitsSigned, of_z, to_z, arith}
use Rattle.std.proofs.lemmas.Int.{to_z-of_z}
use Rattle.word_image.proofs.Common.{ints, nat_tests}

-- a difference of numbers of 32 bits is tested in 64 bits
is_difference : (x a b : ℤ) → FitsSigned w32 x → FitsSigned w32 a → FitsSigned w32 b
    → IsTrue (nat_eq (of_z w64 x) (of_z w64 (to_z w64 (of_z w64 a) -ℤ to_z w64 (of_z w64 b)))) ↔ (x ≡ a -ℤ b)
is_difference x a b f g h = (λ yes. grind (arith, ints, nat_tests), λ same. grind (arith, ints, nat_tests))

-- a difference of numbers of 32 bits that are passed on is tested in 64 bits
pub is_passed_difference : (x a b x' a' b' : ℤ) → FitsSigned w32 x → FitsSigned w32 a → FitsSigned w32 b
    → x' ≡ to_z w32 (of_z w32 x) → a' ≡ to_z w32 (of_z w32 a) → b' ≡ to_z w32 (of_z w32 b)
    → IsTrue (nat_eq (of_z w64 x') (of_z w64 (to_z w64 (of_z w64 a') -ℤ to_z w64 (of_z w64 b')))) ↔ (x ≡ a -ℤ b)
is_passed_difference x a b x' a' b' f g h d e i = rw (d, e, i, to_z-of_z w32 x f, to_z-of_z w32 a g, to_z-of_z w32 b h) (is_difference x a b f g h)
