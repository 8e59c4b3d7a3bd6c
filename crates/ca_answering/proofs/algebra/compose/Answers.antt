use Rattle.std.proofs.Common.{sym}
use Rattle.ca_questions.proofs.Common.{IsFinding, IsCauseFor}
use Rattle.ca_answering.proofs.algebra.compose.Goals as goal

pub returns-in-Ok : goal.returns-in-Ok
returns-in-Ok c = rw c.rule_finding.ensures.made (IsFinding.Compose c.args.first.now c.args.second.now c.in-Ok.composed (sym c.in-Ok.ensures.fault) c.in-Ok.ensures.composed c.rule_finding.ensures.accepted)

pub returns-in-Err : goal.returns-in-Err
returns-in-Err c = IsCauseFor.Compose c.args.first.now c.args.second.now c.in-Err.fault (sym c.in-Err.ensures.fault)
