-- The image cells under a shifted rule.
use Rattle.std.proofs.Common.{◌≡◌, None, ℤ, ◌+ℤ◌, ap, arith}
use Rattle.word_image.proofs.Common.{ints, IsShape-offset, LocalRule, IsRule, local_map}
use Rattle.tail_config.proofs.Common.{cells}
use Rattle.rule_algebra.specs.Algebra.{shifted}
use Rattle.rule_algebra.specs.MadeImages.{ShiftsImages}
use Rattle.rule_algebra.specs.AlgebraFaults.{offset_fault}

-- the image cells of the shifted rule are the old ones further to the right
pub ShiftsImages-shifted : (r : LocalRule) (by : ℤ) → ShiftsImages r by (shifted r by)
ShiftsImages-shifted r by = λ t i.
    let place : i +ℤ (r.offset +ℤ by) ≡ i +ℤ by +ℤ r.offset = omega (arith, ints) in
    ap (λ j. local_map r (cells t j r.width)) place

-- a shifted rule is accepted if its windows may lie there
pub IsRule-shifted : {r : LocalRule} → IsRule r → (by : ℤ) → offset_fault r.width (r.offset +ℤ by) ≡ None → IsRule (shifted r by)
IsRule-shifted {r} rule by none = record {
  shape = IsShape-offset (r.offset +ℤ by) rule.shape (grind (arith, ints)) (grind (arith, ints));
  entries = rule.entries;
  letters = rule.letters;
}
