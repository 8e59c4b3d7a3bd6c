use Rattle.std.proofs.Common.{◌≡◌, ℕ, ◌/◌, ◌%◌, ℤ, pos, ◌+ℤ◌, ◌-ℤ◌, ◌*ℤ◌, ap, ◌∙◌, arith}
use Rattle.word_image.proofs.Common.{div-add-mod, ints}
use Rattle.std.proofs.lemmas.Nat.Gcd.{IsGcd-from_zero, IsGcd-from_mod}
use Rattle.kept_sums.specs.Rows.{IsCombinedOf}
use Rattle.kept_sums.proofs.laws.Integers.{mul-add, mul-sub, mul-assoc}
use Rattle.kept_sums.proofs.rows.gcd.Goals as goal

-- a combination of the second number and the remainder is one of both
stepped : (one other g : ℕ) → IsCombinedOf other (one % other) g → IsCombinedOf one other g
stepped one other g combined =
    let x : ℤ = combined.first in
    let y : ℤ = combined.second in
    let q : ℕ = one / other in
    let whole : pos one ≡ (pos other *ℤ pos q) +ℤ pos (one % other) = omega (arith, ints, div-add-mod one other) in
    let spread = ap (λ (z : ℤ). y *ℤ z) whole ∙ mul-add y (pos other *ℤ pos q) (pos (one % other)) in
    record {
      first = y;
      second = x -ℤ (y *ℤ pos q);
      is = omega (arith, ints, combined.is, spread, mul-sub (pos other) x (y *ℤ pos q), mul-assoc y (pos q) (pos other));
    }

pub loop-other-preserved : goal.loop-other-preserved
loop-other-preserved c = (
  λ g h. c.loop-other.invariant.0 g (IsGcd-from_mod _ _ g h),
  λ g h. c.loop-other.invariant.1 g (stepped _ _ g h),
)

pub returns-clause-greatest : goal.returns-clause-greatest
returns-clause-greatest c = c.loop-other.invariant.0 _ (IsGcd-from_zero _ _ (omega arith))

pub returns-clause-combined : goal.returns-clause-combined
returns-clause-combined c = c.loop-other.invariant.1 _ (record { first = pos 1; second = pos 0; is = omega (arith, ints) })
