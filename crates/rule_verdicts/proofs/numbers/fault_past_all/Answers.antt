use Rattle.rule_verdicts.proofs.laws.Numbers.{numbers_fault-past}
use Rattle.rule_verdicts.proofs.numbers.fault_past_all.Goals as goal

pub returns-in-Ok : goal.returns-in-Ok
returns-in-Ok c first count beyond = numbers_fault-past c.args.k c.args.m first count c.in-Ok.ensures.0 beyond
