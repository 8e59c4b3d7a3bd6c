-- Lines of the output, worked out by hand. The prover computes the same lines.
use Rattle.std.specs.Prelude.{◌≡◌, refl, ◌∷◌, [], codes, Some}
use Rattle.std.specs.Fmt.{digits}
use Rattle.rule_text.specs.declared.text_fault.TextFault.TheVariants as fault
use Rattle.ca_text.specs.Reports.{line, number_line, surjective_line}
use Rattle.ca_text.specs.StatusLines.{operand_fault_line}

-- letters from 10 to 15 are written a to f
line_of_an_orphan : surjective_line (Some (0 ∷ 1 ∷ 9 ∷ 10 ∷ 15 ∷ [])) ≡ codes "surjective no orphan 019af\n"
line_of_an_orphan = refl

-- a fault that has a place is written with it
fault_with_place : operand_fault_line 1 (fault.Form 3) ≡ line (codes "rule fault 1 form 3")
unfolding digits
fault_with_place = refl

-- a fault without a place is written as its kind only
fault_without_place : operand_fault_line 2 fault.Nodes ≡ line (codes "rule fault 2 nodes")
unfolding digits
fault_without_place = refl

-- the number of rule 110 is written in decimal
line_of_a_number : number_line (Some 110) ≡ line (codes "number 110")
unfolding digits
line_of_a_number = refl
