-- A beginning is the text of a rule whose table may end early. For example, 2:3:-1:t01 is the beginning of all rules
-- with two states, width 3 and offset -1 whose table begins with 0 1. This file defines the meaning and the first fault
-- of a beginning.
use Rattle.std.specs.Prelude.{◌≡◌, ℕ, ◌-◌, ◌^◌, List, [], ◌++◌, length, replicate, Option, Some, None, Result, Ok, Err}
use Rattle.std.specs.Option.{option_map, option_or}
use Rattle.word_image.specs.LocalRules.{LocalRule}
use Rattle.word_image.specs.Grammars.{IsFormFault}
use Rattle.word_image.specs.RuleFaults.{shape_fault, table_fault}
use Rattle.rule_text.specs.RuleTexts.{Said, Entries, Says, IsSaid, as_text_fault}
use Rattle.rule_text.specs.declared.text_fault.TextFault.{TextFault}
use Rattle.rule_text.specs.declared.text_fault.TextFault.TheVariants as fault
use Rattle.rule_text.specs.declared.beginnings.Beginning.{Beginning}

-- a table of `size` letters: the given letters, followed by zeros
abbrev pub filled : ℕ → List ℕ → List ℕ
filled size letters = letters ++ replicate (size - length letters) 0

-- the letters of the table that the entries give, or no letters if they give a number
abbrev pub letters_of : Entries → List ℕ
letters_of (Entries.Table letters) = letters
letters_of (Entries.Number n) = []

-- the fault of the entries of a beginning whose shape is accepted, or None: they are a number and not a table, there are more letters than windows, or a letter isn't below k
abbrev pub beginning_entries_fault : Said → Entries → Option TextFault
beginning_entries_fault s (Entries.Table letters) = option_map (as_text_fault s.place) (table_fault s.states s.width (filled (s.states ^ s.width) letters))
beginning_entries_fault s (Entries.Number n) = Some fault.Kind

-- the first fault of a beginning, if there is one: faults of the shape come before faults of the entries
abbrev pub beginning_fault : Said → Option TextFault
beginning_fault s = option_or (option_map (as_text_fault s.place) (shape_fault s.states s.width s.offset)) (beginning_entries_fault s s.entries)

-- the rule of a beginning: its table has the given letters, followed by zeros
abbrev pub beginning_rule : Said → LocalRule
beginning_rule s = record { states = s.states; width = s.width; offset = s.offset; table = filled (s.states ^ s.width) (letters_of s.entries) }

-- the result of reading a beginning is right: `Ok` gives its rule and the number of its letters, and `Err` gives its first fault
abbrev pub IsBeginningOf : Said → Result Beginning TextFault → Type 0
IsBeginningOf s (Ok b) = (beginning_fault s ≡ None) × (b.rule ≡ beginning_rule s) × (b.given ≡ length (letters_of s.entries))
IsBeginningOf s (Err f) = beginning_fault s ≡ Some f

-- the text is a beginning without a fault, and b has its rule and the number of its letters
pub record IsBeginning (text : List ℕ) (b : Beginning) : Type 0 where
  pub said : Said
  pub says : Says text said
  pub accepted : beginning_fault said ≡ None
  pub rule : b.rule ≡ beginning_rule said
  pub given : b.given ≡ length (letters_of said.entries)

-- the first fault of a text that should be a beginning: the text isn't in the grammar, or its meaning has a fault
pub data IsBeginningFault (text : List ℕ) : TextFault → Type 0 where
  NoForm : (place : ℕ) → IsFormFault IsSaid text place → IsBeginningFault text (fault.Form place)
  Refused : (said : Said) (f : TextFault) → Says text said → beginning_fault said ≡ Some f → IsBeginningFault text f
