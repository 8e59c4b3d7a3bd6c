use Rattle.std.proofs.Common.{◌≡◌, ℕ, ◌^◌, List, None, refl, arith, w8, FitsSigned, to_z, of_z, ℤ}
use Rattle.word_image.specs.LocalRules.{IsRule}
use Rattle.word_image.specs.RuleFaults.{shape_fault, table_fault}
use Rattle.word_image.proofs.laws.RuleFaults.{IsShape-shape_fault, IsWord-table_fault, table_fault-IsWord}
use Rattle.word_image.proofs.Storage.{take-in_row, drop-in_row}
use Rattle.word_image.proofs.local_rule.Rule.new.Goals as goal

-- parts without a fault, of which the offset was passed on, are those of a rule
made : (k m : ℕ) (o : ℤ) (t : List ℕ) → FitsSigned w8 o → None ≡ shape_fault k m (to_z w8 (of_z w8 o)) → None ≡ table_fault k m t → IsRule (record { states = k; width = m; offset = o; table = t })
made k m o t fits shape table = grind (arith, IsWord-table_fault)

pub returns-in_err-check_table-clause-accepted : goal.returns-in_err-check_table-clause-accepted
returns-in_err-check_table-clause-accepted c = grind (arith, table_fault-IsWord)

pub node_count-requires : goal.node_count-requires
node_count-requires c = grind (arith, IsShape-shape_fault)

pub invariant_of-result : goal.invariant_of-result
invariant_of-result c =
    let t = c.args.table.now in
    let n = c.args.k ^ c.args.m in
    let rule = made c.args.k c.args.m c.args.o t c.ranges.o c.in_ok-check_shape.ensures c.in_ok-check_table.ensures in
    grind (arith, take-in_row, drop-in_row)

pub returns-clause-accepted : goal.returns-clause-accepted
returns-clause-accepted c = (λ _. made c.args.k c.args.m c.args.o c.args.table.now c.ranges.o c.in_ok-check_shape.ensures c.in_ok-check_table.ensures, λ _. refl)
