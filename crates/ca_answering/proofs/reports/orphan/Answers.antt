use Rattle.ca_questions.proofs.Common.{IsFinding}
use Rattle.ca_answering.proofs.reports.orphan.Goals as goal

pub returns : goal.returns
returns c = IsFinding.Orphan c.args.rule.now c.least_orphan.result c.least_orphan.ensures
