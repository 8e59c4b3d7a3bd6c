use Rattle.std.proofs.Common.{codes}
use Rattle.word_image.proofs.Common.{false≢true}
use Rattle.ca_questions.specs.Values.{counts_of}
use Rattle.ca_text.specs.Lines.{count_line}
use Rattle.ca_text.proofs.laws.Appended.{IsAppended-behind, IsAppended-longer, IsAppended-then, appended_twice}
use Rattle.ca_text.proofs.counts.write_counts.Goals as goal

pub returns-in_err-write_count-3-clause-appended : goal.returns-in_err-write_count-3-clause-appended
returns-in_err-write_count-3-clause-appended c =
    let t = counts_of c.args.counts.now in
    let before = c.args.output.now in
    let failed = c.from_residual-in_err-write_count-3.ensures.0 in
    let right = appended_twice before _ (count_line (codes "right") t.right) c.in_ok-write_first_counts.ensures.appended.0 c.in_ok-write_count.ensures.appended.0 in
    let left = appended_twice before _ (count_line (codes "left") t.left) right c.in_ok-write_count-2.ensures.appended.0 in
    IsAppended-longer _ _ _ _ _ failed (IsAppended-behind _ before _ _ _ failed left (λ room. false≢true (c.in_err-write_count-3.ensures.appended.1 room)))

pub returns-clause-appended : goal.returns-clause-appended
returns-clause-appended c =
    let t = counts_of c.args.counts.now in
    let before = c.args.output.now in
    let right = appended_twice before _ (count_line (codes "right") t.right) c.in_ok-write_first_counts.ensures.appended.0 c.in_ok-write_count.ensures.appended.0 in
    let left = appended_twice before _ (count_line (codes "left") t.left) right c.in_ok-write_count-2.ensures.appended.0 in
    let open_ = appended_twice before _ (count_line (codes "open") t.open_) left c.in_ok-write_count-3.ensures.appended.0 in
    let last = c.write_count-4 in
    IsAppended-then last.result before last.new.output _ (count_line (codes "conserving") t.conserving) open_ last.ensures.appended
