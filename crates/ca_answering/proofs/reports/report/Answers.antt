use Rattle.std.proofs.Common.{option_copied}
use Rattle.ca_answering.proofs.laws.OwnWeights.{IsFinding-by, cause-report}
use Rattle.ca_answering.proofs.reports.report.Goals as goal

pub returns-in-Some : goal.returns-in-Some
returns-in-Some c =
    let made = c.least_report.ensures in
    IsFinding-by (option_copied c.args.weights) c.keeps_limits.ensures c.in-Some.ensures.each made.weights c.in-Some.ensures.weights made.least

pub returns-in-None : goal.returns-in-None
returns-in-None c = cause-report (option_copied c.args.weights) c.in-None.ensures.none
