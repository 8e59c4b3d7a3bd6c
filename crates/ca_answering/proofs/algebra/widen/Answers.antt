use Rattle.std.proofs.Common.{sym}
use Rattle.ca_questions.proofs.Common.{IsFinding, IsCauseFor}
use Rattle.ca_answering.proofs.algebra.widen.Goals as goal

pub returns-in-Ok : goal.returns-in-Ok
returns-in-Ok c = rw c.rule_finding.ensures.made (IsFinding.Widen c.args.rule.now c.args.width c.in-Ok.widened (sym c.in-Ok.ensures.fault) c.in-Ok.ensures.widened c.rule_finding.ensures.accepted)

pub returns-in-Err : goal.returns-in-Err
returns-in-Err c = IsCauseFor.Widen c.args.rule.now c.args.width c.in-Err.fault (sym c.in-Err.ensures.fault)
