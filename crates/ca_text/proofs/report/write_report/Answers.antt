use Rattle.std.proofs.Common.{◌++◌, ap, ◌∙◌, cond, codes}
use Rattle.word_image.proofs.Common.{false≢true}
use Rattle.rule_verdicts.specs.Reports.{side_in, sum_of}
use Rattle.ca_text.specs.Reports.{line, side_line, conserving_line}
use Rattle.ca_text.proofs.laws.Appended.{IsAppended-behind, IsAppended-longer, IsAppended-then, appended_twice}
use Rattle.ca_text.proofs.report.write_report.Goals as goal

pub returns-in_err-write_side-clause-appended : goal.returns-in_err-write_side-clause-appended
returns-in_err-write_side-clause-appended c =
    let failed = c.from_residual-in_err-write_side.ensures.0 in
    let right = IsAppended-behind _ c.args.output.now _ _ _ failed c.in_ok-write_first_lines.ensures.appended.0 (λ room. false≢true (c.in_err-write_side.ensures.appended.1 room)) in
    IsAppended-longer _ _ _ _ _ failed (IsAppended-longer _ _ _ _ _ failed (IsAppended-longer _ _ _ _ _ failed right))

pub returns-in_err-write_side-2-clause-appended : goal.returns-in_err-write_side-2-clause-appended
returns-in_err-write_side-2-clause-appended c =
    let failed = c.from_residual-in_err-write_side-2.ensures.0 in
    let right = appended_twice c.args.output.now _ (side_line (codes "right") (side_in c.args.report.now.right)) c.in_ok-write_first_lines.ensures.appended.0 c.in_ok-write_side.ensures.appended.0 in
    let left = IsAppended-behind _ c.args.output.now _ _ _ failed right (λ room. false≢true (c.in_err-write_side-2.ensures.appended.1 room)) in
    IsAppended-longer _ _ _ _ _ failed (IsAppended-longer _ _ _ _ _ failed left)

pub returns-in_err-write_open-clause-appended : goal.returns-in_err-write_open-clause-appended
returns-in_err-write_open-clause-appended c =
    let f = c.args.report.now in
    let before = c.args.output.now in
    let failed = c.from_residual-in_err-write_open.ensures.0 in
    let right = appended_twice before _ (side_line (codes "right") (side_in f.right)) c.in_ok-write_first_lines.ensures.appended.0 c.in_ok-write_side.ensures.appended.0 in
    let left = appended_twice before _ (side_line (codes "left") (side_in f.left)) right c.in_ok-write_side-2.ensures.appended.0 in
    rw (← c.is_open.ensures) (IsAppended-longer _ _ _ _ _ failed (IsAppended-behind _ before _ _ _ failed left (λ room. false≢true (c.in_err-write_open.ensures.appended.1 room))))

pub returns-clause-appended : goal.returns-clause-appended
returns-clause-appended c =
    let f = c.args.report.now in
    let before = c.args.output.now in
    let right = appended_twice before _ (side_line (codes "right") (side_in f.right)) c.in_ok-write_first_lines.ensures.appended.0 c.in_ok-write_side.ensures.appended.0 in
    let left = appended_twice before _ (side_line (codes "left") (side_in f.left)) right c.in_ok-write_side-2.ensures.appended.0 in
    let both = ap (λ b. line (cond b (codes "open yes") (codes "open no"))) c.is_open.ensures in
    let open_ = appended_twice before _ _ left (c.in_ok-write_open.ensures.appended.0 ∙ ap (λ t. c.write_side-2.new.output ++ t) both) in
    IsAppended-then c.write_conserving.result before c.write_conserving.new.output _ (conserving_line (sum_of f.rule f.conserving)) open_ c.write_conserving.ensures.appended
