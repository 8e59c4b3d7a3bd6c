use Rattle.std.proofs.Common.{arith, rules, take_all}
use Rattle.word_image.proofs.Common.{All-more}
use Rattle.rule_text.specs.RuleTexts.{IsDigit}
use Rattle.rule_text.specs.Heads.{IsDecimalStop}
use Rattle.rule_text.proofs.laws.Leads.{IsFormFault-decimal}
use Rattle.rule_text.proofs.digits.decimal_stop.Goals as goal

pub loop-place-preserved : goal.loop-place-preserved
loop-place-preserved c = record {
  digits = All-more IsDigit c.args.digits.now c.loop-place.place 0 c.loop-place-test.true c.loop-place.invariant.digits c.if-not-is_ascii_digit.ensures.cases;
  few = omega arith;
}

pub returns-else-is_empty-clause-none : goal.returns-else-is_empty-clause-none
returns-else-is_empty-clause-none c = grind (arith, take_all)

pub returns-then-place-eq-MOST_DIGITS-clause-some : goal.returns-then-place-eq-MOST_DIGITS-clause-some
returns-then-place-eq-MOST_DIGITS-clause-some c =
    let stop : IsDecimalStop c.args.digits.now c.loop-place.place = search rules in
    IsFormFault-decimal c.args.digits.now c.loop-place.place stop

pub returns-then-is_empty-clause-some : goal.returns-then-is_empty-clause-some
returns-then-is_empty-clause-some c = grind (arith, IsFormFault-decimal)
