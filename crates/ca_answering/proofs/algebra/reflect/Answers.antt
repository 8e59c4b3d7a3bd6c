use Rattle.std.proofs.Common.{sym}
use Rattle.ca_questions.proofs.Common.{IsFinding}
use Rattle.ca_answering.proofs.algebra.reflect.Goals as goal

pub returns : goal.returns
returns c =
    let r = c.args.rule.now in
    rw (c.rule_finding.ensures.made, c.reflect.ensures.mirrored) (IsFinding.Reflect r (rw (sym c.reflect.ensures.mirrored) c.rule_finding.ensures.accepted))
