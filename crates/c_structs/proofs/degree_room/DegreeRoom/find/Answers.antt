use Rattle.std.proofs.Common.{◌≡◌, ℤ, sym, ap, ◌∙◌, w8, FitsSigned, to_z, of_z, refl, subst, rules}
use Rattle.std.proofs.lemmas.Int.{to_z-of_z}
use Rattle.word_image.proofs.Common.{LocalRule, IsRule, rule_fault}
use Rattle.c_structs.specs.Reports.{rule_with}
use Rattle.c_structs.specs.Degrees.{IsDegreeFound}
use Rattle.c_structs.proofs.laws.Degrees.{IsDegreeFound-fault}
use Rattle.c_structs.proofs.degree_room.DegreeRoom.find.Goals as goal

pub returns-in-Ok : goal.returns-in-Ok
returns-in-Ok c =
    let fits : FitsSigned w8 c.args.offset = search rules in
    let offset : to_z w8 (of_z w8 c.args.offset) ≡ c.args.offset = to_z-of_z w8 c.args.offset fits in
    let made = c.in-Ok.ensures.rule ∙ ap (λ (o : ℤ). rule_with c.args.states c.args.width o c.args.table.now) offset in
    subst (λ (r : LocalRule). IsDegreeFound r c.numbers_of.result c.numbers_of.new.letters.items) made
    (IsDegreeFound.Found _ _ (subst IsRule (sym c.in-Ok.ensures.rule) (c.in-Ok.ensures.accepted.0 refl)) c.numbers_of.ensures.numbers)

pub returns-in-Err : goal.returns-in-Err
returns-in-Err c =
    let table = c.args.table.now in
    let fits : FitsSigned w8 c.args.offset = search rules in
    let offset : to_z w8 (of_z w8 c.args.offset) ≡ c.args.offset = to_z-of_z w8 c.args.offset fits in
    IsDegreeFound-fault (rule_with c.args.states c.args.width c.args.offset table) c.in-Err.fault
    (c.in-Err.ensures.fault ∙ ap (λ o. rule_fault c.args.states c.args.width o table) offset) c.fault_number.ensures c.none.ensures (search rules)
