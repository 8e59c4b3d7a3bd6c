use Rattle.std.proofs.Common.{ℕ, ℤ, of_z, to_z, w64, w8, sym, subst, ap, ◌∙◌}
use Rattle.std.proofs.lemmas.Int.{to_z-of_z}
use Rattle.word_image.proofs.Common.{LocalRule, rule_fault}
use Rattle.tail_config.proofs.Common.{config_of}
use Rattle.c_structs.specs.Images.{IsImageCall}
use Rattle.c_structs.specs.Reports.{rule_with}
use Rattle.ca_c.proofs.exports.ca_image.Goals as goal

pub returns-in-Ok : goal.returns-in-Ok
returns-in-Ok c =
    let passed = to_z-of_z w8 c.args.offset c.ranges.offset in
    let rule = c.in-Ok.ensures.rule ∙ ap (λ (o : ℤ). rule_with c.args.states c.args.width o c.args.table.now) passed in
    let first = to_z-of_z w64 c.args.first c.ranges.first in
    let called = λ (r : LocalRule) (place : ℤ). IsImageCall r (config_of c.args.left.now c.args.middle.now c.args.right.now) place c.args.letters.now c.write_image.result c.write_image.new.letters in
    subst (called (rule_with c.args.states c.args.width c.args.offset c.args.table.now)) first
    (subst (λ (r : LocalRule). called r (to_z w64 (of_z w64 c.args.first))) rule c.write_image.ensures)

pub returns-in-Err : goal.returns-in-Err
returns-in-Err c =
    let passed = to_z-of_z w8 c.args.offset c.ranges.offset in
    let fault = ap (λ (o : ℤ). rule_fault c.args.states c.args.width o c.args.table.now) (sym passed) ∙ sym c.in-Err.ensures.fault in
    let called = λ (n : ℕ). IsImageCall (rule_with c.args.states c.args.width c.args.offset c.args.table.now) (config_of c.args.left.now c.args.middle.now c.args.right.now) c.args.first c.args.letters.now n c.args.letters.now in
    subst called (sym c.fault_number.ensures) (IsImageCall.NoRule c.in-Err.fault fault)
