use Rattle.rule_verdicts.specs.Reports.{side_in}
use Rattle.rule_verdicts.proofs.laws.Openness.{IsOpen-says_open}
use Rattle.rule_verdicts.proofs.report.least_report.Goals as goal

pub returns-clause-open_ : goal.returns-clause-open_
returns-clause-open_ c =
    let least = c.report_of_pairs.ensures.least in
    rw c.of-pairs.ensures at (IsOpen-says_open c.of-pairs.result (side_in c.report_of_pairs.result.right) (side_in c.report_of_pairs.result.left) least.right least.left)
