use Rattle.std.proofs.Common.{take}
use Rattle.rule_text.specs.RuleTexts.{decimal_value}
use Rattle.rule_text.proofs.laws.Decimals.{decimal_value-more}
use Rattle.rule_text.proofs.decimals.decimal_number.Goals as goal

pub loop-byte-preserved : goal.loop-byte-preserved
loop-byte-preserved c =
    let digits = c.args.digits.now in
    let i = c.loop-byte.byte-index in
    rw (decimal_value-more digits i c.loop-byte-test.true) (c.with_digit-number.ensures (decimal_value (take i digits)) c.loop-byte.invariant)
