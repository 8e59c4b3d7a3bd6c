use Rattle.std.proofs.Common.{ℕ, ℤ, to_z, of_z, w8, sym, subst, ap, ◌∙◌}
use Rattle.std.proofs.lemmas.Int.{to_z-of_z}
use Rattle.word_image.proofs.Common.{LocalRule, rule_fault}
use Rattle.c_structs.specs.MovedConfigs.{IsMovedCall}
use Rattle.c_structs.specs.Reports.{rule_with}
use Rattle.ca_c.proofs.moved_export.ca_moved.Goals as goal

pub returns-in-Ok : goal.returns-in-Ok
returns-in-Ok c =
    let passed = to_z-of_z w8 c.args.offset c.ranges.offset in
    let rule = c.in-Ok.ensures.rule ∙ ap (λ (o : ℤ). rule_with c.args.states c.args.width o c.args.table.now) passed in
    let by = to_z-of_z w8 c.args.by c.ranges.by in
    let called = λ (r : LocalRule) (s : ℤ). IsMovedCall r s c.args.moved.now c.write_moved.result c.write_moved.new.moved in
    subst (called (rule_with c.args.states c.args.width c.args.offset c.args.table.now)) by
    (subst (λ (r : LocalRule). called r (to_z w8 (of_z w8 c.args.by))) rule c.write_moved.ensures)

pub returns-in-Err : goal.returns-in-Err
returns-in-Err c =
    let passed = to_z-of_z w8 c.args.offset c.ranges.offset in
    let fault = ap (λ (o : ℤ). rule_fault c.args.states c.args.width o c.args.table.now) (sym passed) ∙ sym c.in-Err.ensures.fault in
    let called = λ (n : ℕ). IsMovedCall (rule_with c.args.states c.args.width c.args.offset c.args.table.now) c.args.by c.args.moved.now n c.args.moved.now in
    subst called (sym c.fault_number.ensures) (IsMovedCall.NoRule c.in-Err.fault fault)
