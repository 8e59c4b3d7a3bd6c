use Rattle.std.proofs.Common.{◌≡◌, ℕ, Bool, ◌-◌, List, take, drop, length, Some, sym, ap, subst, ◌∙◌, w8, FitsSigned, rules, ℤ}
use Rattle.std.proofs.lemmas.Int.{to_z-of_z}
use Rattle.word_image.proofs.Common.{take_rest}
use Rattle.rule_text.specs.RuleTexts.{IsDecimal, IsOffset, decimal_value}
use Rattle.rule_text.specs.Heads.{signed}
use Rattle.rule_text.proofs.laws.Heads.{IsOffset-at, IsOffset-only}
use Rattle.rule_text.proofs.decimals.decimal_offset.Goals as goal

pub returns-then-not-is_decimal-clause-every : goal.returns-then-not-is_decimal-clause-every
returns-then-not-is_decimal-clause-every c = λ z offset.
    let text = c.args.text.now in
    let start = c.minus-minus.result.1 in
    let decimal = (IsOffset-only text start c.minus-minus.result.0 z c.minus-minus.ensures.over c.minus-minus.ensures.none offset).0 in
    let same : IsDecimal 1 2 (take (length text - start) (drop start text)) = subst (λ (x : List ℕ). IsDecimal 1 2 x) (sym (take_rest text start)) decimal in
    absurd (search rules)

-- the offset that was read
read : (text : List ℕ) (start number : ℕ) (minus : Bool) (o : ℤ) → number ≡ decimal_value (take (length text - start) (drop start text))
    → o ≡ signed minus number
    → o ≡ signed minus (decimal_value (drop start text))
read text start number minus o is sign = sign ∙ ap (signed minus) (is ∙ ap decimal_value (take_rest text start))

pub returns-clause-offset : goal.returns-clause-offset
returns-clause-offset c =
    let text = c.args.text.now in
    let start = c.minus-minus.result.1 in
    let fits : FitsSigned w8 c.with_sign.result = search rules in
    let decimal : IsDecimal 1 2 (take (length text - start) (drop start text)) = search rules in
    let value = to_z-of_z w8 c.with_sign.result fits ∙ read text start c.in_ok-number.field-0 c.minus-minus.result.0 c.with_sign.result c.in_ok-number.ensures.1 c.with_sign.ensures in
    subst (λ (z : ℤ). IsOffset text z) (sym value)
    (IsOffset-at text start c.minus-minus.result.0 c.minus-minus.ensures.over (subst (λ (x : List ℕ). IsDecimal 1 2 x) (take_rest text start) decimal))

pub returns-clause-every : goal.returns-clause-every
returns-clause-every c = λ z offset.
    let text = c.args.text.now in
    let start = c.minus-minus.result.1 in
    let fits : FitsSigned w8 c.with_sign.result = search rules in
    let value = to_z-of_z w8 c.with_sign.result fits ∙ read text start c.in_ok-number.field-0 c.minus-minus.result.0 c.with_sign.result c.in_ok-number.ensures.1 c.with_sign.ensures in
    let only = (IsOffset-only text start c.minus-minus.result.0 z c.minus-minus.ensures.over c.minus-minus.ensures.none offset).1 in
    ap Some (value ∙ only)
