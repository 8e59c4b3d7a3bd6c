-- The C library reads the text of a rule into a struct. This file defines which rule a struct holds, and what such a call
-- returns.
use Rattle.std.specs.Prelude.{◌≡◌, ℕ, ◌-◌, List, ◌++◌, length, replicate, Some}
use Rattle.word_image.specs.LocalRules.{LocalRule}
use Rattle.rule_text.specs.RuleTexts.{IsRuleText, IsTextFault}
use Rattle.rule_text.specs.declared.text_fault.TextFault.{TextFault}
use Rattle.c_structs.specs.declared.rule_parts.RuleParts.{RuleParts}
use Rattle.c_structs.specs.NumberedVerdicts.{number_code}

-- the struct holds the rule r: states, width, offset, the number of windows, and the letters of the table, which are followed by zeros up to 256 numbers
pub record AreParts (parts : RuleParts) (r : LocalRule) : Type 0 where
  pub states : parts.states ≡ r.states
  pub width : parts.width ≡ r.width
  pub offset : parts.offset ≡ r.offset
  pub windows : parts.table_length ≡ length r.table
  pub letters : parts.table ≡ r.table ++ replicate (256 - length r.table) 0

-- the code and the struct that a call returns for the text; before the call, the struct was `before`. Only one of these cases fits
pub data IsRuleCall (text : List ℕ) (before : RuleParts) : ℕ → RuleParts → Type 0 where
  -- if the text isn't the text of a rule, the call returns the code of its first fault and leaves the struct as it was
  Fault : (f : TextFault) → IsTextFault text f → IsRuleCall text before (number_code (Some f)) before
  -- if the text is the text of a rule, the call returns the code 0 and a struct that holds this rule
  Rule : (r : LocalRule) (parts : RuleParts) → IsRuleText text r → AreParts parts r → IsRuleCall text before 0 parts
