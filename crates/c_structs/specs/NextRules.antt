-- The C library lists the rules of a shape that have a property. This file defines what it returns to a call for the
-- next such rule, or for the order of the windows. The rules come by ascending rank: the rank of a table is the number
-- whose digits are its letters in the order of the windows.
use Rattle.std.specs.Prelude.{◌≡◌, ◌≢◌, ℕ, ◌^◌, ◌-◌, ◌<◌, ◌≤◌, Bool, true, false, ⊤, List, ◌++◌, length, replicate, Some, None, pos}
use Rattle.word_image.specs.LocalRules.{LocalRule, IsRule}
use Rattle.word_image.specs.RuleFaults.{rule_fault, shape_fault}
use Rattle.word_image.specs.declared.local_rule.RuleFault.{RuleFault}
use Rattle.rule_lists.specs.Ranks.{IsOrder, rank}
use Rattle.rule_lists.specs.Orders.{IsOrderFor}
use Rattle.rule_lists.specs.Listed.{IsFirst, NoneIs}
use Rattle.rule_lists.specs.declared.properties.Property.{Property}
use Rattle.rule_lists.specs.declared.properties.Property.TheVariants.{Surjective, Injective, RightClosing, LeftClosing, Open, Conserving}
use Rattle.rule_text.specs.RuleTexts.{rule_of_table}
use Rattle.c_structs.specs.Verdicts.{fault_code}

-- the number that stands for a property in a call
abbrev pub property_number : Property → ℕ
property_number Surjective = 1
property_number Injective = 2
property_number RightClosing = 4
property_number LeftClosing = 8
property_number Open = 16
property_number Conserving = 32

-- the number stands for no property
abbrev pub IsNoProperty : ℕ → Type 0
IsNoProperty number = (property : Property) → number ≢ property_number property

-- the fixed letters as 256 numbers: the letters with which tables begin, followed by 255, which isn't a letter and fixes nothing
abbrev pub fixed_letters : List ℕ → List ℕ
fixed_letters begin = begin ++ replicate (256 - length begin) 255

-- the rule q is still to come: the first argument is false, or the table of q has a greater rank than the given table
abbrev pub IsToCome : Bool → ℕ → List ℕ → List ℕ → LocalRule → Type 0
IsToCome false states order table q = ⊤
IsToCome true states order table q = rank states order table < rank states order q.table

-- the arguments are right: the table is that of a rule, the number stands for the property, `order` has each window once, and no more letters are fixed than there are windows
pub record IsQuestion (property : Property) (number states width : ℕ) (order begin table : List ℕ) : Type 0 where
  pub rule : IsRule (rule_of_table states width table)
  pub numbered : number ≡ property_number property
  pub ordered : IsOrder (states ^ width) order
  pub within : length begin ≤ states ^ width

-- the code and the table that a call returns; before the call, the table was `before`. Only one of these cases fits
pub data IsNext (number states width : ℕ) (order begin : List ℕ) (after : Bool) (before : List ℕ) : ℕ → List ℕ → Type 0 where
  -- if no rule has the table `before`, the call returns the code of the fault and leaves the table as it was
  NoTable : (f : RuleFault) → rule_fault states width (pos 0) before ≡ Some f → IsNext number states width order begin after before (fault_code (Some f)) before
  -- if the number stands for no property, the call returns the code 10 and leaves the table as it was
  NoProperty : IsRule (rule_of_table states width before) → IsNoProperty number → IsNext number states width order begin after before 10 before
  -- if `order` isn't an order of all windows, the call returns the code 11 and leaves the table as it was
  NoOrder : (property : Property) → IsRule (rule_of_table states width before) → number ≡ property_number property → ¬ IsOrder (states ^ width) order
      → IsNext number states width order begin after before 11 before
  -- if more letters are fixed than there are windows, the call returns the code 12 and leaves the table as it was
  NoBeginning : (property : Property) → IsRule (rule_of_table states width before) → number ≡ property_number property → IsOrder (states ^ width) order → states ^ width < length begin
      → IsNext number states width order begin after before 12 before
  -- if no rule with the property is to come, the call returns the code 13 and leaves the table as it was
  NoRule : (property : Property) → IsQuestion property number states width order begin before → NoneIs property states width (fixed_letters begin) (IsToCome after states order before)
      → IsNext number states width order begin after before 13 before
  -- if a rule with the property is to come, the call returns the code 0 and the table of the first such rule
  Rule : (property : Property) (r : LocalRule) → IsQuestion property number states width order begin before → IsFirst property states width (fixed_letters begin) order (IsToCome after states order before) r
      → IsNext number states width order begin after before 0 r.table

-- the code and the windows that a call returns; before the call, the buffer had the bytes `before`. Only one of these cases fits
pub data IsWindowOrder (number states width : ℕ) (before : List ℕ) : ℕ → List ℕ → Type 0 where
  -- if no rule has this shape, the call returns the code of the fault and leaves the buffer as it was
  NoShape : (f : RuleFault) → shape_fault states width (pos 0) ≡ Some f → IsWindowOrder number states width before (fault_code (Some f)) before
  -- if the number stands for no property, the call returns the code 10 and leaves the buffer as it was
  NoProperty : shape_fault states width (pos 0) ≡ None → IsNoProperty number → IsWindowOrder number states width before 10 before
  -- if the buffer doesn't have one byte for each window, the call returns the code 5 and leaves the buffer as it was
  NoLength : (property : Property) → shape_fault states width (pos 0) ≡ None → number ≡ property_number property → length before ≢ states ^ width → IsWindowOrder number states width before 5 before
  -- if there is no fault, the call returns the code 0 and the order of the windows for the property
  Order : (property : Property) (order : List ℕ) → shape_fault states width (pos 0) ≡ None → number ≡ property_number property → IsOrderFor property states width order
      → IsWindowOrder number states width before 0 order
