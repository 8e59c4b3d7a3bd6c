use Rattle.std.proofs.Common.{◌++◌, subst, codes}
use Rattle.rule_text.specs.PrintedRules.{printed_rule}
use Rattle.rule_text.proofs.laws.NumbersFound.{number_found-is}
use Rattle.rule_verdicts.specs.Reports.{injective_of}
use Rattle.ca_text.specs.Reports.{line, number_line, surjective_line, injective_line}
use Rattle.ca_text.specs.Rooms.{IsAppended}
use Rattle.ca_text.proofs.laws.Appended.{IsAppended-then, appended_twice}
use Rattle.ca_text.proofs.report.write_first_lines.Goals as goal

pub returns-clause-appended : goal.returns-clause-appended
returns-clause-appended c =
    let f = c.args.report.now in
    let before = c.args.output.now in
    let number = number_found-is f.rule c.number.result c.number.ensures in
    let two = appended_twice before (line (codes "rule " ++ printed_rule f.rule)) (number_line c.number.result) c.in_ok-write_rule.ensures.appended.0 c.in_ok-write_number.ensures.appended.0 in
    let three = appended_twice before _ (surjective_line f.orphan) two c.in_ok-write_surjective.ensures.appended.0 in
    subst (λ n. IsAppended c.write_injective.result before c.write_injective.new.output
    (line (codes "rule " ++ printed_rule f.rule) ++ number_line n ++ surjective_line f.orphan ++ injective_line (injective_of f.injective))) number
    (IsAppended-then c.write_injective.result before c.write_injective.new.output _ (injective_line (injective_of f.injective)) three c.write_injective.ensures.appended)
