-- A shape without a fault is accepted.
use Rattle.std.proofs.Common.{◌≡◌, ℕ, ◌≤◌, None, ℤ, arith}
use Rattle.word_image.proofs.Common.{nat_tests, ints, IsShape}
use Rattle.rule_algebra.specs.AlgebraFaults.{limit_fault}

-- a shape of as many states as a rule has is accepted where no limit is broken
pub IsShape-limit_fault : (k m : ℕ) (o : ℤ) → 2 ≤ k → k ≤ 16 → 2 ≤ m → limit_fault k m o ≡ None → IsShape k m o
IsShape-limit_fault k m o least most wide none = grind (arith, nat_tests, ints)
