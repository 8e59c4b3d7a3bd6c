use Rattle.std.proofs.Common.{◌≡◌, ℕ, ◌+◌, ◌-◌, ◌*◌, ◌^◌, ◌<◌, ◌≤◌, drop, reverse, get_or, refl, ◌∙◌, arith}
use Rattle.word_image.proofs.Common.{LocalRule, IsRule, value}
use Rattle.rule_text.proofs.laws.Numbers.{value-reverse_drop, value-reverse_drop-below, wolfram_number-value}
use Rattle.rule_text.proofs.printing.number.Goals as goal

-- the number with the letter before it, by the names that the code gives to the parts
step : (r : LocalRule) (i n k a : ℕ) → IsRule r → 0 < i → i ≤ r.states ^ r.width → n ≡ value r.states (reverse (drop i r.table)) → k ≡ r.states
    → a ≡ get_or r.table (i - 1) 0 → n * k + a ≡ value r.states (reverse (drop (i - 1) r.table))
step r i n k a rule some within number states letter = grind (arith, value-reverse_drop)

pub loop-value-preserved : goal.loop-value-preserved
loop-value-preserved c = grind (arith, step)

pub overflow_add-number : goal.overflow_add-number
overflow_add-number c =
    let r = c.args.rule.now in
    let i = c.loop-value.value in
    let next = step r i c.loop-value.number c.from.result c.from-in-loop-value.result c.k.ensures.rule (omega arith) (omega arith)
    c.loop-value.invariant (c.from.ensures ∙ c.k-in-loop-value.ensures.states) (c.from-in-loop-value.ensures ∙ c.at.ensures.entry) in
    omega (arith, next, value-reverse_drop-below c.k.ensures.rule (omega arith) (i - 1))

pub overflow_mul-number : goal.overflow_mul-number
overflow_mul-number c =
    let r = c.args.rule.now in
    let i = c.loop-value.value in
    let next = step r i c.loop-value.number c.from.result (get_or r.table (i - 1) 0) c.k.ensures.rule (omega arith) (omega arith)
    c.loop-value.invariant (c.from.ensures ∙ c.k-in-loop-value.ensures.states) refl in
    omega (arith, next, value-reverse_drop-below c.k.ensures.rule (omega arith) (i - 1))

pub returns : goal.returns
returns c = grind (arith, wolfram_number-value)
