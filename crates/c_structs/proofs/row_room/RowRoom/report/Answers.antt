use Rattle.std.proofs.Common.{◌≡◌, ap, ◌∙◌, w8, FitsSigned, to_z, of_z, rules}
use Rattle.std.proofs.lemmas.Int.{to_z-of_z}
use Rattle.word_image.proofs.Common.{rule_fault}
use Rattle.c_structs.specs.Reports.{rule_with}
use Rattle.c_structs.proofs.laws.Reports.{IsReported-fault}
use Rattle.c_structs.proofs.row_room.RowRoom.report.Goals as goal

pub returns-in-Err : goal.returns-in-Err
returns-in-Err c =
    let table = c.args.table.now in
    let fits : FitsSigned w8 c.args.offset = search rules in
    let offset : to_z w8 (of_z w8 c.args.offset) ≡ c.args.offset = to_z-of_z w8 c.args.offset fits in
    IsReported-fault (rule_with c.args.states c.args.width c.args.offset table) c.in-Err.fault
    (c.in-Err.ensures.fault ∙ ap (λ o. rule_fault c.args.states c.args.width o table) offset) c.fault_number.ensures c.none.ensures (search rules)
