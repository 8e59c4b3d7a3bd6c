-- The texts of a rule: their grammar, their meaning, and their first fault. A text has one of three forms: the bare
-- form 110, which is a Wolfram number of two states and width 3; the table form 2:3:-1:t01110110, with states, width,
-- offset and the letters of the table; and the number form 2:3:-1:w110. The meaning of a text is what it says, even if
-- no rule with these numbers is accepted.
use Rattle.std.specs.Prelude.{◌≡◌, ℕ, ◌+◌, ◌-◌, ◌^◌, ◌≤◌, List, ◌++◌, length, map, codes, Option, Some, None, All, nat_lt, nat_le, if◌then◌else◌, ℤ, pos, negsuc, neg_ℤ, reverse}
use Rattle.std.specs.Option.{option_map, option_or}
use Rattle.word_image.specs.LocalRules.{LocalRule, value, word_of}
use Rattle.word_image.specs.Digits.{IsHexDigit, letter_at}
use Rattle.word_image.specs.Grammars.{IsFormFault}
use Rattle.word_image.specs.RuleFaults.{shape_fault, table_fault}
use Rattle.word_image.specs.declared.local_rule.RuleFault.{RuleFault}
use Rattle.word_image.specs.declared.local_rule.RuleFault.TheVariants as limit
use Rattle.rule_text.specs.PrintedRules.{head}
use Rattle.rule_text.specs.declared.text_fault.TextFault.{TextFault}
use Rattle.rule_text.specs.declared.text_fault.TextFault.TheVariants as fault

-- the byte is a decimal digit
abbrev pub IsDigit : ℕ → Type 0
IsDigit b = (48 ≤ b) × (b ≤ 57)

-- the text consists of decimal digits, at least `low` and at most `high` of them
pub record IsDecimal (low high : ℕ) (text : List ℕ) : Type 0 where
  pub digits : All IsDigit text
  pub least : low ≤ length text
  pub most : length text ≤ high

-- the number that decimal digits stand for
abbrev pub decimal_value : List ℕ → ℕ
decimal_value text = value 10 (map (λ b. b - 48) text)

-- the text is this offset: one or two decimal digits, with or without a minus sign before them
pub data IsOffset : List ℕ → ℤ → Type 0 where
  Plain : (digits : List ℕ) → IsDecimal 1 2 digits → IsOffset digits (pos (decimal_value digits))
  Minus : (digits : List ℕ) → IsDecimal 1 2 digits → IsOffset (codes "-" ++ digits) (neg_ℤ (pos (decimal_value digits)))

-- the entries are the last part of a text, after the kind t or w: the letters of the table, or the number
pub data Entries : Type 0 where
  Table : (letters : List ℕ) → Entries
  Number : (number : ℕ) → Entries

-- the meaning of a text of the grammar: states, width, offset and entries; the entries begin at the place `place` of the text
pub record Said : Type 0 where
  pub states : ℕ
  pub width : ℕ
  pub offset : ℤ
  pub entries : Entries
  pub place : ℕ

-- the meaning of a text with k states, width m, offset o and the Wolfram number n; its entries are taken to begin at place 0
abbrev pub by_number : ℕ → ℕ → ℤ → ℕ → Said
by_number k m o n = record { states = k; width = m; offset = o; entries = Entries.Number n; place = 0 }

-- the meaning of a text that is only the number n: the rule of two states, width 3 and offset -1 with this number
abbrev pub bare : ℕ → Said
bare n = by_number 2 3 (negsuc 0) n

-- the text has this meaning: it has the bare form, the table form or the number form
pub data Says : List ℕ → Said → Type 0 where
  Bare : (digits : List ℕ) → IsDecimal 1 39 digits → Says digits (bare (decimal_value digits))
  InTable : (k m o digits : List ℕ) (offset : ℤ) → IsDecimal 1 2 k → IsDecimal 1 2 m → IsOffset o offset → All IsHexDigit digits
      → Says (head k m o (codes "t") ++ digits)
      (record { states = decimal_value k; width = decimal_value m; offset = offset; entries = Entries.Table (map letter_at digits); place = length (head k m o (codes "t")) })
  InNumber : (k m o digits : List ℕ) (offset : ℤ) → IsDecimal 1 2 k → IsDecimal 1 2 m → IsOffset o offset → IsDecimal 1 39 digits
      → Says (head k m o (codes "w") ++ digits)
      (record { states = decimal_value k; width = decimal_value m; offset = offset; entries = Entries.Number (decimal_value digits); place = length (head k m o (codes "w")) })

-- the text is in the grammar
abbrev pub IsSaid : List ℕ → Type 0
IsSaid text = (said : Said) × Says text said

-- a fault of a rule as a fault of its text: a wrong letter at place i of the table is at place `place` + i of the text
abbrev pub as_text_fault : ℕ → RuleFault → TextFault
as_text_fault place limit.States = fault.States
as_text_fault place limit.Width = fault.Width
as_text_fault place limit.Nodes = fault.Nodes
as_text_fault place limit.Offset = fault.Offset
as_text_fault place limit.Length = fault.Length
as_text_fault place (limit.Letter i) = fault.Letter (place + i)

-- the fault of the Wolfram number n for k states and width m, which are accepted, or None: there are more than 6 states, or no table has this number
abbrev pub number_fault : ℕ → ℕ → ℕ → Option TextFault
number_fault k m n = if nat_lt 6 k then Some fault.Kind else (if nat_le (k ^ (k ^ m)) n then Some fault.Number else None)

-- the fault of the entries of a text whose shape is accepted, if there is one
abbrev pub entries_fault : Said → Entries → Option TextFault
entries_fault s (Entries.Table letters) = option_map (as_text_fault s.place) (table_fault s.states s.width letters)
entries_fault s (Entries.Number n) = number_fault s.states s.width n

-- the first fault of the meaning of a text, or None. Faults of the shape come first, then faults of the kind, the length, the letters and the number
abbrev pub fault_of : Said → Option TextFault
fault_of s = option_or (option_map (as_text_fault s.place) (shape_fault s.states s.width s.offset)) (entries_fault s s.entries)

-- the table of a text; for a number its digits in base k, beginning with the least significant one
abbrev pub table_of : Said → Entries → List ℕ
table_of s (Entries.Table letters) = letters
table_of s (Entries.Number n) = reverse (word_of s.states (s.states ^ s.width) n)

-- the rule that a text with this meaning gives
abbrev pub rule_of : Said → LocalRule
rule_of s = record { states = s.states; width = s.width; offset = s.offset; table = table_of s s.entries }

-- the rule with k states, width m, offset 0 and this table
abbrev pub rule_of_table : ℕ → ℕ → List ℕ → LocalRule
rule_of_table k m table = record { states = k; width = m; offset = pos 0; table = table }

-- the text gives the rule r: it is in the grammar, its meaning has no fault, and its rule is r
pub record IsRuleText (text : List ℕ) (r : LocalRule) : Type 0 where
  pub said : Said
  pub says : Says text said
  pub accepted : fault_of said ≡ None
  pub rule : r ≡ rule_of said

-- the first fault of a text: the text isn't in the grammar, or its meaning has a fault
pub data IsTextFault (text : List ℕ) : TextFault → Type 0 where
  NoForm : (place : ℕ) → IsFormFault IsSaid text place → IsTextFault text (fault.Form place)
  Refused : (said : Said) (f : TextFault) → Says text said → fault_of said ≡ Some f → IsTextFault text f
