use Rattle.std.proofs.Common.{◌++◌, codes, subst}
use Rattle.word_image.proofs.Common.{word_text}
use Rattle.ca_text.specs.Reports.{line}
use Rattle.ca_text.specs.Rooms.{IsAppended}
use Rattle.ca_text.proofs.report.write_conserving.Goals as goal

pub returns-in-Ring-clause-appended : goal.returns-in-Ring-clause-appended
returns-in-Ring-clause-appended c =
    let push = c.push_line_with_word in
    rw c.in-Ring.is (subst (λ w. IsAppended push.result c.args.output.now push.new.self (line (codes "conserving no ring " ++ word_text w))) c.letters.ensures.letters push.ensures.appended)
