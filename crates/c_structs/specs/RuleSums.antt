-- What the C library returns to a call for the sums of weights of words that a rule keeps, or for the flux of such a
-- sum.
use Rattle.std.specs.Prelude.{◌≡◌, ℕ, List, Option, Some, None, ℤ, pos}
use Rattle.word_image.specs.RuleFaults.{rule_fault}
use Rattle.word_image.specs.declared.local_rule.RuleFault.{RuleFault}
use Rattle.kept_sums.specs.RangeFaults.{range_fault}
use Rattle.kept_sums.specs.declared.ranges.RangeFault.{RangeFault}
use Rattle.kept_sums.specs.declared.ranges.RangeFault.TheVariants.{Zero, Words}
use Rattle.kept_sums.specs.Sums.{IsKept}
use Rattle.kept_sums.specs.Rows.{at, IsSmall}
use Rattle.kept_sums.specs.Fluxes.{IsFluxList}
use Rattle.rule_text.specs.RuleTexts.{rule_of_table}
use Rattle.c_structs.specs.Verdicts.{fault_code}

-- the code of a fault in the length of the words, or 0 if there is no fault
abbrev pub range_code : Option RangeFault → ℕ
range_code None = 0
range_code (Some Zero) = 14
range_code (Some Words) = 15

-- the code of the rule's fault; if the rule has none, the code of the fault in the length of the words
abbrev pub first_code : Option RuleFault → Option RangeFault → ℕ
first_code None range = range_code range
first_code (Some fault) range = fault_code (Some fault)

-- the code of the first fault of the rule at offset 0 or of the length `range` of the words, or 0 if there is no fault
abbrev pub sums_code : ℕ → ℕ → List ℕ → ℕ → ℕ
sums_code states width table range = first_code (rule_fault states width (pos 0) table) (range_fault states range)

-- the code and the numbers that a call for the flux of weights returns; before the call, the numbers were `before`. Only one of these cases fits
pub data IsFluxCall (states width : ℕ) (table : List ℕ) (range : ℕ) (weights before : List ℤ) : ℕ → List ℤ → Type 0 where
  -- if no rule has these states, this width and this table, the call returns the code of the fault and leaves the numbers as they were
  NoRule : (f : RuleFault) → rule_fault states width (pos 0) table ≡ Some f → IsFluxCall states width table range weights before (fault_code (Some f)) before
  -- if `range` is 0, or there are more than 16 words of `range` letters, the call returns the code of this fault and leaves the numbers as they were
  NoRange : (f : RangeFault) → rule_fault states width (pos 0) table ≡ None → range_fault states range ≡ Some f
      → IsFluxCall states width table range weights before (range_code (Some f)) before
  -- if a weight isn't from -2^56 to 2^56, the call returns the code 16 and leaves the numbers as they were
  Great : rule_fault states width (pos 0) table ≡ None → range_fault states range ≡ None → ¬ IsSmall weights → IsFluxCall states width table range weights before 16 before
  -- if the rule doesn't keep the sum of the weights, the call returns the code 17 and leaves the numbers as they were
  Lost : rule_fault states width (pos 0) table ≡ None → range_fault states range ≡ None → IsSmall weights → ¬ IsKept range (at weights) (rule_of_table states width table)
      → IsFluxCall states width table range weights before 17 before
  -- if the rule keeps the sum of the weights, the call returns the code 0 and the numbers of the flux
  Found : (numbers : List ℤ) → rule_fault states width (pos 0) table ≡ None → range_fault states range ≡ None → IsSmall weights
      → IsFluxList range (at weights) (rule_of_table states width table) numbers → IsFluxCall states width table range weights before 0 numbers
