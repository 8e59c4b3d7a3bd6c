use Rattle.std.proofs.Common.{arith}
use Rattle.rule_text.proofs.laws.Numbers.{number_limit, fault_of-beyond}
use Rattle.rule_text.proofs.parsing.accept_number.Goals as goal

pub returns-in_default : goal.returns-in_default
returns-in_default c =
    let f = c.args.head.now in
    let limit = number_limit f.k f.m f.o c.requires.shape c.if-head-gt-MOST_NUMBERED_STATES.false in
    fault_of-beyond f.k f.m f.o f.place _ c.requires.shape c.if-head-gt-MOST_NUMBERED_STATES.false (omega (arith, c.in_default.ensures))
