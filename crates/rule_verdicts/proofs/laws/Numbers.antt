-- Consecutive numbers, of which the last one has a rule, or which are past all that have one.
use Rattle.std.proofs.Common.{◌≡◌, ℕ, ◌+◌, ◌-◌, ◌^◌, ◌≤◌, None, ap, ◌∙◌, arith, Some, pos, Option, option_map}
use Rattle.std.specs.Option.{option_or}
use Rattle.word_image.proofs.Common.{nat_tests, shape_fault, IsShape-shape_fault}
use Rattle.rule_text.specs.RuleTexts.{as_text_fault, number_fault}
use Rattle.rule_text.specs.declared.text_fault.TextFault.{TextFault}
use Rattle.rule_text.specs.declared.text_fault.TextFault.TheVariants as fault
use Rattle.rule_text.proofs.laws.Numbers.{number_limit}
use Rattle.rule_text.proofs.laws.AcceptedRules.{none_or, none_map, number-below}
use Rattle.rule_verdicts.specs.Numbers.{numbers_fault}

-- the first fault of a shape
abbrev of_shape : ℕ → ℕ → Option TextFault
of_shape k m = option_map (as_text_fault 0) (shape_fault k m (pos 0))

-- a shape of which some number has no fault has few states
pub few_states : (k m n : ℕ) → number_fault k m n ≡ None → k ≤ 6
few_states k m n none = grind (arith, nat_tests)

-- a number past all
number_fault-past : (k m n : ℕ) → k ≤ 6 → k ^ (k ^ m) ≤ n → number_fault k m n ≡ Some fault.Number
number_fault-past k m n few past = grind (arith, nat_tests)

-- the fault of numbers that no shape has, where number 0 has a rule
pub numbers_fault-past : (k m first count : ℕ) → option_or (of_shape k m) (number_fault k m 0) ≡ None → 2 ^ 128 ≤ first + count - 1
    → numbers_fault k m first count ≡ Some fault.Number
numbers_fault-past k m first count none beyond =
    let n : ℕ = first + count - 1 in
    let parts = none_or (of_shape k m) (number_fault k m 0) none in
    let few = few_states k m 0 parts.1 in
    let limit = number_limit k m (pos 0) (IsShape-shape_fault k m (pos 0) (none_map (as_text_fault 0) (shape_fault k m (pos 0)) parts.0)) few in
    let past : k ^ (k ^ m) ≤ n = omega arith in
    ap (λ f. option_or f (number_fault k m n)) parts.0 ∙ number_fault-past k m n few past

-- where the last number has a rule, there is room for all
pub numbers_fault-room : (k m first count : ℕ) → 1 ≤ count → numbers_fault k m first count ≡ None → first + count ≤ k ^ (k ^ m)
numbers_fault-room k m first count some none =
    let parts = none_or (of_shape k m) (number_fault k m (first + count - 1)) none in
    let last = number-below k m (first + count - 1) parts.1 in
    omega arith
