-- What the C library returns to a call for the degree of a rule. The two words are in a buffer of letters.
use Rattle.std.specs.Prelude.{◌≡◌, ℕ, ◌<◌, ◌≤◌, List, [], ◌++◌, length, drop, replicate, Some}
use Rattle.word_image.specs.LocalRules.{LocalRule, IsRule}
use Rattle.word_image.specs.Words.{IsSurjective}
use Rattle.word_image.specs.RuleFaults.{rule_fault}
use Rattle.word_image.specs.declared.local_rule.RuleFault.{RuleFault}
use Rattle.welch_index.specs.Fewest.{IsFewestLast, IsFewestFirst}
use Rattle.welch_index.specs.Degrees.{AreDegreeAndMultipliers}
use Rattle.c_structs.specs.declared.rule_degrees.RuleDegree.{RuleDegree}
use Rattle.c_structs.specs.Verdicts.{fault_code}
use Rattle.c_structs.specs.LetterRows.{IsRow, no_row}

-- the degree, the right multiplier and the left multiplier of a rule; three zeros if the rule isn't surjective
pub data SaysDegree (r : LocalRule) : ℕ → ℕ → ℕ → Type 0 where
  Degree : (d n l : ℕ) → IsSurjective r → AreDegreeAndMultipliers r d n l → SaysDegree r d n l
  NoDegree : ¬ IsSurjective r → SaysDegree r 0 0 0

-- the struct v has the numbers of the rule, and the letters are those of the word with the fewest last nodes and of the word with the fewest first nodes
pub record IsDegreeOf (r : LocalRule) (v : RuleDegree) (letters : List ℕ) : Type 0 where
  pub last : List ℕ
  pub first : List ℕ
  pub fault : v.fault ≡ 0
  pub numbers : SaysDegree r v.degree v.right_multiplier v.left_multiplier
  pub right : IsFewestLast r v.right v.right_nodes last
  pub left : IsFewestFirst r v.left v.left_nodes first
  pub right_row : IsRow letters v.right_word last
  pub left_row : IsRow letters v.left_word first
  pub words : letters ≡ last ++ first
  pub reserved : v.reserved ≡ replicate 6 0

-- the struct that has only the number of a fault
abbrev pub no_degree : ℕ → RuleDegree
no_degree fault = record {
  fault = fault;
  degree = 0;
  right = 0;
  left = 0;
  right_multiplier = 0;
  left_multiplier = 0;
  right_nodes = 0;
  left_nodes = 0;
  reserved = replicate 6 0;
  right_word = no_row;
  left_word = no_row;
}

-- the struct and the letters that belong to a rule: the numbers and the letters of the two words, or a fault and no letters
pub data IsDegreeFound (r : LocalRule) : RuleDegree → List ℕ → Type 0 where
  -- if no rule has these states, width, offset and table, the struct has the code of the fault, and there are no letters
  NoRule : (f : RuleFault) → rule_fault r.states r.width r.offset r.table ≡ Some f → IsDegreeFound r (no_degree (fault_code (Some f))) []
  -- if there is no fault, the struct has the numbers of the rule
  Found : (v : RuleDegree) (letters : List ℕ) → IsRule r → IsDegreeOf r v letters → IsDegreeFound r v letters

-- the code, the length, the struct and the buffer that a call returns; before the call, the struct was `was` and the buffer had the letters `before`
pub data IsDegreeCall (r : LocalRule) (was : RuleDegree) (before : List ℕ) : ℕ → ℕ → RuleDegree → List ℕ → Type 0 where
  -- if the buffer has room for all letters, the call returns the code 0, the number of letters, the struct, and the letters at the beginning of the buffer
  Whole : (v : RuleDegree) (letters : List ℕ) → IsDegreeFound r v letters → length letters ≤ length before
      → IsDegreeCall r was before 0 (length letters) v (letters ++ drop (length letters) before)
  -- if the buffer is too short for the letters, the call returns the code 10 and the number of letters, and leaves the struct and the buffer as they were
  Short : (v : RuleDegree) (letters : List ℕ) → IsDegreeFound r v letters → length before < length letters
      → IsDegreeCall r was before 10 (length letters) was before
  -- if there is no memory, the call returns the code 8 and the length 0, and leaves the struct and the buffer as they were
  Memory : IsDegreeCall r was before 8 0 was before
