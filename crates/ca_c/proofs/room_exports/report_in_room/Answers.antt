use Rattle.std.proofs.Common.{◌≡◌, w8, FitsSigned, to_z, of_z, refl, ap, subst, length, rules}
use Rattle.word_image.proofs.Common.{false≢true}
use Rattle.std.proofs.lemmas.Int.{to_z-of_z}
use Rattle.c_structs.specs.Reports.{IsReported, named_weights, rule_with}
use Rattle.c_structs.proofs.laws.Reports.{IsReportCall-whole, IsReportCall-short}
use Rattle.ca_c.proofs.room_exports.report_in_room.Goals as goal
use Rattle.ca_c.proofs.room_exports.report_in_room.Goals.{After-report-made}

-- the report that the room makes
made : (c : After-report-made)
    → IsReported (rule_with c.args.states c.args.width c.args.offset c.args.table.now) (named_weights c.args.weights.now) c.report-made.result c.report-made.new.self
made c =
    let fits : FitsSigned w8 c.args.offset = search rules in
    let offset : to_z w8 (of_z w8 c.args.offset) ≡ c.args.offset = to_z-of_z w8 c.args.offset fits in
    subst (λ o. IsReported (rule_with c.args.states c.args.width o c.args.table.now) (named_weights c.args.weights.now) c.report-made.result c.report-made.new.self) offset c.report-made.ensures

pub returns-then-put-clause-reported : goal.returns-then-put-clause-reported
returns-then-put-clause-reported c =
    let same = c.letters-found.ensures in
    let put = c.if-put.ensures in
    IsReportCall-whole (made (goal.at.returns-then-put-clause-reported c).After-report-made) (ap length same) same (put.room.0 refl) (put.whole refl)

pub returns-else-put-clause-reported : goal.returns-else-put-clause-reported
returns-else-put-clause-reported c =
    let same = c.letters-found.ensures in
    let put = c.if-put.ensures in
    IsReportCall-short (made (goal.at.returns-else-put-clause-reported c).After-report-made) (ap length same) same (λ fits. false≢true (put.room.1 fits)) (put.kept refl)
