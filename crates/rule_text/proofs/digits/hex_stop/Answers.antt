use Rattle.std.proofs.Common.{List, rules, subst, All, take_all}
use Rattle.word_image.proofs.Common.{All-more, IsHexDigit}
use Rattle.rule_text.specs.Heads.{IsHexStop}
use Rattle.rule_text.proofs.laws.Leads.{IsFormFault-hex}
use Rattle.rule_text.proofs.digits.hex_stop.Goals as goal

pub loop-place-preserved : goal.loop-place-preserved
loop-place-preserved c = All-more IsHexDigit c.args.digits.now c.loop-place.place 0 c.loop-place-test.true c.loop-place.invariant (search rules)

pub returns-clause-none : goal.returns-clause-none
returns-clause-none c = subst (λ (x : List _). All IsHexDigit x) (take_all c.loop-place.place c.args.digits.now c.loop-place-test.false) c.loop-place.invariant

pub returns-then-is_none-clause-some : goal.returns-then-is_none-clause-some
returns-then-is_none-clause-some c =
    let stop : IsHexStop c.args.digits.now c.loop-place.place = search rules in
    IsFormFault-hex c.args.digits.now c.loop-place.place stop
