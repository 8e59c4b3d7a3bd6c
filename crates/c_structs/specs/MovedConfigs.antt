-- What the C library returns to a call for the configurations that a rule only moves.
use Rattle.std.specs.Prelude.{◌≡◌, ◌≢◌, ℕ, ◌<◌, ◌≤◌, take, Some, ℤ, pos, ◌+ℤ◌}
use Rattle.word_image.specs.LocalRules.{LocalRule, IsRule, node_count}
use Rattle.word_image.specs.RuleFaults.{rule_fault}
use Rattle.word_image.specs.declared.local_rule.RuleFault.{RuleFault}
use Rattle.moved_configs.specs.MovedWindows.{AreMovedWindows, TellMoved, AreLetterSets}
use Rattle.moved_configs.specs.MovedRings.{IsLeastMovedRing, MovesNone}
use Rattle.c_structs.specs.Verdicts.{fault_code}
use Rattle.c_structs.specs.declared.moved.MovedConfigs.{MovedConfigs}

-- the struct m has the windows and the least ring of the configurations that the rule only moves by s
pub record AreMoved (r : LocalRule) (s : ℤ) (m : MovedConfigs) : Type 0 where
  pub windows : AreMovedWindows r s m.rows
  pub exactly : TellMoved r s m.rows
  pub sets : AreLetterSets r m.rows
  pub least : 1 ≤ m.length → IsLeastMovedRing r s (take m.length m.ring)
  pub none : m.length ≡ 0 → MovesNone r s
  pub short : m.length ≤ node_count r

-- the code and the struct that a call returns; before the call, the struct was `before`. Only one of these cases fits
pub data IsMovedCall (r : LocalRule) (by : ℤ) (before : MovedConfigs) : ℕ → MovedConfigs → Type 0 where
  -- if no rule has these states, width, offset and table, the call returns the code of the fault and leaves the struct as it was
  NoRule : (f : RuleFault) → rule_fault r.states r.width r.offset r.table ≡ Some f → IsMovedCall r by before (fault_code (Some f)) before
  -- if the window of cell 0 doesn't have the cell `by`, the call returns the code 23 and leaves the struct as it was
  NoPlace : IsRule r → ((p : ℕ) → p < r.width → by ≢ r.offset +ℤ pos p) → IsMovedCall r by before 23 before
  -- if the window of cell 0 has the cell `by`, the call returns the code 0 and the configurations that the rule only moves by `by` cells
  Found : (p : ℕ) (m : MovedConfigs) → IsRule r → p < r.width → by ≡ r.offset +ℤ pos p → AreMoved r by m → IsMovedCall r by before 0 m
