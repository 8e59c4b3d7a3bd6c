use Rattle.ca_questions.proofs.Common.{IsFinding}
use Rattle.ca_answering.proofs.algebra.trim.Goals as goal

pub returns : goal.returns
returns c = rw c.rule_finding.ensures.made (IsFinding.Trim c.args.rule.now c.trim.result c.trim.ensures c.rule_finding.ensures.accepted)
