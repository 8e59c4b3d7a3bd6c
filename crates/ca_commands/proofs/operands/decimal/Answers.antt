use Rattle.std.proofs.Common.{◌≡◌, ℕ, ◌<◌, ◌^◌, Option, None, Some, arith, MatchOption, SomeIff}
use Rattle.rule_text.specs.RuleTexts.{IsDecimal}
use Rattle.ca_commands.proofs.laws.Operands.{decimal_value-below}
use Rattle.ca_commands.proofs.operands.decimal.Goals as goal

-- a number that is small is found
found : {Is : Type 0} {v : ℕ} (number : Option ℕ) → Is → v < 2 ^ 128 → SomeIff number (v < 2 ^ 128) v → MatchOption number (¬ Is) (λ n. Is × (n ≡ v))
found None is small none = absurd (none small)
found (Some n) is small some = (is, some.1)

pub returns-then-is_decimal : goal.returns-then-is_decimal
returns-then-is_decimal c =
    let is = c.is_decimal.ensures.0 c.if-is_decimal.true in
    let wide : IsDecimal 1 38 c.args.text.now = record { digits = is.digits; least = is.least; most = omega (arith, is.most, c.requires) } in
    found c.decimal_number.result is (let below = decimal_value-below wide in omega arith) c.decimal_number.ensures
