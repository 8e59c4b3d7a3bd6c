-- The tests of a window as bits.
use Rattle.std.proofs.Common.{◌≡◌, ℕ, ◌/◌, ◌^◌, ◌↔◌, IsTrue, nat_eq, bit_and, IsBitSet, subst, sym, ap, ◌∙◌, arith}
use Rattle.word_image.proofs.Common.{LocalRule, end_node, window_with, bit_set_by_shift, nat_tests}
use Rattle.word_image.specs.declared.side.Side.{Side}
use Rattle.moved_configs.specs.Trims.{IsKept, Goes}

-- the test of a bit by a shift
pub shift-bit : (set n : ℕ) → IsTrue (nat_eq (bit_and (set / 2 ^ n) 1) 1) ↔ IsBitSet set n
shift-bit set n = grind (arith, nat_tests, bit_set_by_shift)

-- a kept window goes on if the bit of its end is set
pub Goes-bit : (side : Side) (r : LocalRule) (p set u a w n : ℕ) → w ≡ window_with side r u a → n ≡ end_node side r w → IsKept r p w
    → (IsTrue (nat_eq (bit_and (set / 2 ^ n) 1) 1) ↔ Goes side r p set u a)
Goes-bit side r p set u a w n here end kept =
    let bit = shift-bit set n in
    let there = end ∙ ap (end_node side r) here in
    (λ one. (subst (IsKept r p) here kept, subst (IsBitSet set) there (bit.0 one)), λ goes. bit.1 (subst (IsBitSet set) (sym there) goes.1))
