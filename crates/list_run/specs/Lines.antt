-- The lines that the program writes: the lines of a list of rules, and the lines for wrong words and for faults. A
-- beginning is the text of a rule in table form that may end after some letters of the table.
use Rattle.std.specs.Prelude.{◌≡◌, ℕ, ◌-◌, ◌^◌, List, [], ◌∷◌, ◌++◌, length, min, codes}
use Rattle.std.specs.Fmt.{decimal}
use Rattle.word_image.specs.LocalRules.{LocalRule}
use Rattle.rule_text.specs.PrintedRules.{printed_rule}
use Rattle.rule_text.specs.declared.text_fault.TextFault.{TextFault}
use Rattle.rule_text.specs.FaultTexts.{fault_text}

-- the line of a text: the text and the byte at the end of a line
abbrev pub line : List ℕ → List ℕ
line text = text ++ 10 ∷ []

-- the line that the program writes if the words of the command line aren't a property and a text
abbrev pub usage_line : List ℕ
usage_line = line (codes "usage error")

-- the line that the program writes if the beginning, which is the only operand, has the fault f
abbrev pub fault_line : TextFault → List ℕ
fault_line f = line (codes "rule fault 1 " ++ fault_text f)

-- the rule with the given table and the states, width and offset of the shape
abbrev pub with_table : LocalRule → List ℕ → LocalRule
with_table shape table = record { states = shape.states; width = shape.width; offset = shape.offset; table = table }

-- the line of the listed rule r, with the offset of the shape in place of its own
abbrev pub rule_line : LocalRule → LocalRule → List ℕ
rule_line shape r = line (printed_rule (with_table shape r.table))

-- the lines of all rules of a list, with the offset of the shape
abbrev pub rule_lines : LocalRule → List LocalRule → List ℕ
rule_lines shape [] = []
rule_lines shape (r ∷ rs) = rule_line shape r ++ rule_lines shape rs

-- the line with the number of rules
abbrev pub count_line : ℕ → List ℕ
count_line count = line (codes "rules " ++ decimal count)

-- the last line of a list, with the number of rules; the count stops at 2^64 - 1
abbrev pub last_line : List LocalRule → List ℕ
last_line rules = count_line (min (length rules) (2 ^ 64 - 1))

-- the bytes are the line of a rule of this shape with some table
pub record IsLineOf (shape : LocalRule) (bytes : List ℕ) : Type 0 where
  pub table : List ℕ
  pub long : length table ≡ shape.states ^ shape.width
  pub text : bytes ≡ line (printed_rule (with_table shape table))
