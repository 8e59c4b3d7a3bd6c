use Rattle.std.proofs.Common.{◌≡◌, ◌+ℤ◌, sym, ap, ap₂, subst, ◌∙◌, arith, w8, w16, to_z, of_z}
use Rattle.word_image.proofs.Common.{err_from_is_err_and, IsRule, FitsSigned-offset}
use Rattle.rule_algebra.specs.Algebra.{shifted}
use Rattle.rule_algebra.specs.MadeImages.{ShiftsImages}
use Rattle.rule_algebra.specs.AlgebraFaults.{offset_fault}
use Rattle.rule_algebra.proofs.laws.Shifts.{ShiftsImages-shifted, IsRule-shifted}
use Rattle.rule_algebra.proofs.RuleParts.{rule_of_parts, sum-in_w16}
use Rattle.rule_algebra.proofs.shifts.shift.Goals as goal
use Rattle.rule_algebra.proofs.shifts.shift.Goals.{After-table}

-- the offset of the shifted rule
place : (c : After-table)
    → to_z w16 (of_z w16 (to_z w16 (of_z w16 c.from.result) +ℤ to_z w16 (of_z w16 c.from-2.result))) ≡ c.args.rule.now.offset +ℤ c.args.by
place c = sum-in_w16 c.args.rule.now.offset c.args.by _ _ (FitsSigned-offset c.o.ensures.rule) c.ranges.by (c.from.ensures ∙ ap (λ o. to_z w8 (of_z w8 o)) c.o.ensures.offset) c.from-2.ensures

-- the parts are those of the shifted rule, which is accepted
made : (c : After-table) → IsRule (shifted c.args.rule.now c.args.by)
    × (record { states = c.k.result; width = c.m-2.result; offset = to_z w8 (of_z w8 c.in_ok-o.o); table = c.table.result.now } ≡ shifted c.args.rule.now c.args.by)
made c =
    let r = c.args.rule.now in
    let there = place c in
    let rule = IsRule-shifted c.k.ensures.rule c.args.by (sym (c.in_ok-o.ensures.fault ∙ ap₂ offset_fault c.m.ensures.width there)) in
    (rule, rule_of_parts (shifted r c.args.by) _ _ _ _ rule c.k.ensures.states c.m-2.ensures.width (c.in_ok-o.ensures.offset ∙ there) c.table.ensures.table)

pub returns-in_err-o-clause-fault : goal.returns-in_err-o-clause-fault
returns-in_err-o-clause-fault c =
    let p = err_from_is_err_and c.from_residual.result c.from_residual.ensures.1 in
    let there = sum-in_w16 c.args.rule.now.offset c.args.by _ _ (FitsSigned-offset c.o.ensures.rule) c.ranges.by (c.from.ensures ∙ ap (λ o. to_z w8 (of_z w8 o)) c.o.ensures.offset) c.from-2.ensures in
    rw (p.1, p.2) (c.in_err-o.ensures.fault ∙ ap₂ offset_fault c.m.ensures.width there)

pub returns-clause-fault : goal.returns-clause-fault
returns-clause-fault c = c.in_ok-o.ensures.fault ∙ ap₂ offset_fault c.m.ensures.width (place (goal.at.returns-clause-fault c).After-table)

pub rule_of_parts-requires : goal.rule_of_parts-requires
rule_of_parts-requires c = grind (arith, made)

pub returns-clause-shifted : goal.returns-clause-shifted
returns-clause-shifted c = c.rule_of_parts.ensures ∙ (made (goal.at.returns-clause-shifted c).After-table).1

pub returns-clause-images : goal.returns-clause-images
returns-clause-images c = subst (ShiftsImages c.args.rule.now c.args.by) (sym (returns-clause-shifted c)) (ShiftsImages-shifted c.args.rule.now c.args.by)
