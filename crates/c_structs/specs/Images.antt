-- What the C library returns to a call that asks for letters of the image of a configuration: a code, and the letters in the caller's buffer.
use Rattle.std.specs.Prelude.{◌≡◌, ℕ, ◌^◌, ◌≤◌, List, length, Some, ℤ, unsigned_abs}
use Rattle.word_image.specs.LocalRules.{LocalRule, IsRule}
use Rattle.word_image.specs.RuleFaults.{rule_fault}
use Rattle.word_image.specs.declared.local_rule.RuleFault.{RuleFault}
use Rattle.tail_config.specs.Configs.{run}
use Rattle.tail_config.specs.Tails.{TailConfig, IsTail, image_cell}
use Rattle.c_structs.specs.Verdicts.{fault_code}

-- both periods of the configuration have at least one letter
pub record HavePeriods (t : TailConfig) : Type 0 where
  pub left : 1 ≤ length t.left
  pub right : 1 ≤ length t.right

-- the n places from `first` on are within reach: `first` is from -2^61 to 2^61, and n is at most 2^61
pub record AreWithinReach (first : ℤ) (n : ℕ) : Type 0 where
  pub place : unsigned_abs first ≤ 2 ^ 61
  pub count : n ≤ 2 ^ 61

-- a call for letters of the image, starting at place `first`: the code and the letters that it returns if the buffer had the letters `before`; only one of these cases fits
pub data IsImageCall (r : LocalRule) (t : TailConfig) (first : ℤ) (before : List ℕ) : ℕ → List ℕ → Type 0 where
  -- if no rule has these states, width, offset and table, the call returns the code of the fault and leaves the buffer as it was
  NoRule : (f : RuleFault) → rule_fault r.states r.width r.offset r.table ≡ Some f → IsImageCall r t first before (fault_code (Some f)) before
  -- if a period has no letter, the call returns the code 19 and leaves the buffer as it was
  NoPeriod : IsRule r → ¬ HavePeriods t → IsImageCall r t first before 19 before
  -- if a letter isn't one of the rule's letters, the call returns the code 20 and leaves the buffer as it was
  NoLetter : IsRule r → HavePeriods t → ¬ IsTail r.states t → IsImageCall r t first before 20 before
  -- if a place is out of reach, the call returns the code 21 and leaves the buffer as it was
  Far : IsRule r → IsTail r.states t → ¬ AreWithinReach first (length before) → IsImageCall r t first before 21 before
  -- if there is no fault, the call returns the code 0 and the letters of the image
  Found : IsRule r → IsTail r.states t → AreWithinReach first (length before) → IsImageCall r t first before 0 (run (image_cell r t) first (length before))
