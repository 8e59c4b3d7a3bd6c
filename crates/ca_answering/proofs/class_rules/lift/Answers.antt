use Rattle.std.proofs.Common.{sym}
use Rattle.ca_questions.proofs.Common.{IsFinding, IsCauseFor}
use Rattle.ca_answering.proofs.class_rules.lift.Goals as goal

pub returns-in-Ok : goal.returns-in-Ok
returns-in-Ok c =
    let is = c.in-Ok.ensures.lifted in
    rw (c.rule_finding.ensures.made, is) (IsFinding.Lift c.args.rule.now (sym c.in-Ok.ensures.fault) (rw is at c.rule_finding.ensures.accepted))

pub returns-in-Err : goal.returns-in-Err
returns-in-Err c = IsCauseFor.Lift c.args.rule.now c.in-Err.fault (sym c.in-Err.ensures.fault)
