use Rattle.std.proofs.Common.{◌++◌, codes, subst}
use Rattle.word_image.proofs.Common.{word_text}
use Rattle.ca_text.specs.Reports.{line}
use Rattle.ca_text.specs.Rooms.{IsAppended}
use Rattle.ca_text.proofs.report.write_surjective.Goals as goal

pub returns-in-Some-clause-appended : goal.returns-in-Some-clause-appended
returns-in-Some-clause-appended c =
    let push = c.push_line_with_word in
    rw c.in-Some.is (subst (λ w. IsAppended push.result c.args.output.now push.new.self (line (codes "surjective no orphan " ++ word_text w))) c.as_slice.ensures.letters push.ensures.appended)
