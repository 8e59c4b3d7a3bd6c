-- The code that the C library returns to a call that asks for the verdicts of rules with consecutive numbers.
use Rattle.std.specs.Prelude.{ℕ, Option, Some, None}
use Rattle.rule_text.specs.declared.text_fault.TextFault.{TextFault}
use Rattle.rule_text.specs.declared.text_fault.TextFault.TheVariants.{Form, States, Width, Nodes, Offset, Length, Letter, Kind, Number}

-- the code of a fault, or 0 if there is no fault; consecutive numbers of rules can only have the faults 1, 2, 3, 7 and 8
abbrev pub number_code : Option TextFault → ℕ
number_code None = 0
number_code (Some States) = 1
number_code (Some Width) = 2
number_code (Some Nodes) = 3
number_code (Some Offset) = 4
number_code (Some Length) = 5
number_code (Some (Letter place)) = 6
number_code (Some Kind) = 7
number_code (Some Number) = 8
number_code (Some (Form place)) = 9
