use Rattle.std.proofs.Common.{◌≡◌, ◌++◌, codes, append_assoc, decimal, rules}
use Rattle.ca_text.specs.Reports.{line}
use Rattle.ca_text.proofs.laws.Appended.{IsAppended-then}
use Rattle.ca_text.proofs.report.write_side.Goals as goal

pub returns-in_ok-push-in-Ahead-clause-appended : goal.returns-in_ok-push-in-Ahead-clause-appended
returns-in_ok-push-in-Ahead-clause-appended c =
    let name = c.args.name.now in
    let same : c.as_bytes.result.now ≡ name = search rules in
    let last = c.push_line_with_number in
    let text : name ++ line (codes " yes ahead " ++ decimal c.from.result) ≡ line (name ++ codes " yes ahead " ++ decimal c.in-Ahead.n) = rw c.from.ensures (search append_assoc) in
    rw c.in-Ahead.is (rw text at (IsAppended-then last.result c.args.output.now last.new.self name _ (rw same at c.in_ok-push-in-Ahead.ensures.0) last.ensures.appended))
