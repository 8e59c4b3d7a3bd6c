use Rattle.ca_questions.proofs.Common.{IsFinding, counts_of}
use Rattle.ca_answering.proofs.summaries.summary.Goals as goal

pub returns : goal.returns
returns c rules are = IsFinding.Summary rules (counts_of c.args.counts) are
