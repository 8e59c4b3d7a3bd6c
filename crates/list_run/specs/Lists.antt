-- The list of all rules that have a property and whose tables begin with given letters. A beginning has a shape and
-- the given letters. The rules come by ascending rank: the rank of a rule is the number whose digits are the letters
-- of its table, in an order of the windows for the property.
use Rattle.std.specs.Prelude.{◌≡◌, ℕ, ◌^◌, ◌<◌, ◌≤◌, List, ◌++◌, slice_index, Option, None}
use Rattle.word_image.specs.LocalRules.{LocalRule}
use Rattle.rule_text.specs.declared.beginnings.Beginning.{Beginning}
use Rattle.rule_lists.specs.Orders.{IsOrderFor}
use Rattle.rule_lists.specs.Calls.{AreSoFar, AreListed}
use Rattle.rule_lists.specs.declared.properties.Property.{Property}
use Rattle.list_run.specs.Lines.{rule_lines, last_line}

-- the list has the given letters at the first windows, and 255, which isn't a letter, at all other windows
pub record AreGiven (b : Beginning) (letters : List ℕ) : Type 0 where
  pub given : (v : ℕ) → v < b.given → v < b.rule.states ^ b.rule.width → slice_index letters v ≡ slice_index b.rule.table v
  pub open_ : (v : ℕ) → b.given ≤ v → v < b.rule.states ^ b.rule.width → slice_index letters v ≡ 255

-- the output is the list: a line for each rule that has the property and begins with the given letters, by ascending rank, and a line with the number of rules
pub record IsList (property : Property) (b : Beginning) (out : List ℕ) : Type 0 where
  pub letters : List ℕ
  pub order : List ℕ
  pub rules : List LocalRule
  pub given : AreGiven b letters
  pub windows : IsOrderFor property b.rule.states b.rule.width order
  pub listed : AreListed property b.rule.states b.rule.width letters order rules
  pub lines : out ≡ rule_lines b.rule rules ++ last_line rules

-- the output is the beginning of the list: the lines of the first rules
pub record IsListSoFar (property : Property) (b : Beginning) (out : List ℕ) : Type 0 where
  pub letters : List ℕ
  pub order : List ℕ
  pub rules : List LocalRule
  pub last : Option LocalRule
  pub given : AreGiven b letters
  pub windows : IsOrderFor property b.rule.states b.rule.width order
  pub so_far : AreSoFar property b.rule.states b.rule.width letters order None rules last
  pub lines : out ≡ rule_lines b.rule rules
