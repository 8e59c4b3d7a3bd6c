use Rattle.std.proofs.Common.{sym, w8, rules}
use Rattle.std.proofs.lemmas.Int.{to_z-of_z}
use Rattle.ca_questions.proofs.Common.{IsFinding, IsCauseFor}
use Rattle.ca_answering.proofs.algebra.shift.Goals as goal

pub returns-in-Ok : goal.returns-in-Ok
returns-in-Ok c =
    let ok = rw (to_z-of_z w8 c.args.by (search rules)) at c.in-Ok.ensures in
    rw (c.rule_finding.ensures.made, ok.shifted) (IsFinding.Shift c.args.rule.now c.args.by (sym ok.fault) (rw ok.shifted at c.rule_finding.ensures.accepted))

pub returns-in-Err : goal.returns-in-Err
returns-in-Err c =
    let err = rw (to_z-of_z w8 c.args.by (search rules)) at c.in-Err.ensures in
    IsCauseFor.Shift c.args.rule.now c.args.by c.in-Err.fault (sym err.fault)
