-- When the result of reading the text of a rule is right.
use Rattle.std.specs.Prelude.{◌≡◌, Some, None, Result, Ok, Err}
use Rattle.word_image.specs.LocalRules.{LocalRule}
use Rattle.rule_text.specs.declared.text_fault.TextFault.{TextFault}
use Rattle.rule_text.specs.RuleTexts.{Said, fault_of, rule_of}

-- the result for a text with this meaning is right: `Ok` gives the rule of the text, which has no fault, and `Err` gives the first fault
abbrev pub IsReading : Said → Result LocalRule TextFault → Type 0
IsReading s (Ok r) = (fault_of s ≡ None) × (r ≡ rule_of s)
IsReading s (Err f) = fault_of s ≡ Some f
