use Rattle.ca_questions.proofs.Common.{IsFinding}
use Rattle.rule_text.proofs.laws.NumbersFound.{number_found-is}
use Rattle.ca_answering.proofs.reports.number.Goals as goal

pub returns : goal.returns
returns c =
    rw (number_found-is c.args.rule.now c.number.result c.number.ensures) (IsFinding.Number c.args.rule.now)
