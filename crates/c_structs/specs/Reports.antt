-- What the C library returns to a call for a report on a rule. A report has verdicts with their evidence. The words of
-- the evidence are in a buffer of letters.
use Rattle.std.specs.Prelude.{◌≡◌, ℕ, ◌<◌, ◌≤◌, min, List, [], ◌∷◌, ◌++◌, length, drop, replicate, Option, Some, None, ℤ, pos}
use Rattle.word_image.specs.LocalRules.{LocalRule, IsRule}
use Rattle.word_image.specs.RuleFaults.{rule_fault}
use Rattle.word_image.specs.declared.local_rule.RuleFault.{RuleFault}
use Rattle.certificate_laws.specs.LeastEvidence.{Evidence}
use Rattle.ca_questions.specs.Questions.{AreFor, Question}
use Rattle.ca_questions.specs.Findings.{Finding, IsFinding}
use Rattle.c_structs.specs.declared.rule_reports.RuleReport.{RuleReport}
use Rattle.c_structs.specs.Verdicts.{fault_code}
use Rattle.c_structs.specs.LetterRows.{no_row, no_twins, no_split}
use Rattle.c_structs.specs.ReportParts.{SaysSurjective, SaysInjective, SaysSide, SaysConserving, orphan_letters, injective_letters, side_letters, sum_letters}

-- the rule with these states, width, offset and table
abbrev pub rule_with : ℕ → ℕ → ℤ → List ℕ → LocalRule
rule_with states width offset table = record { states = states; width = width; offset = offset; table = table }

-- the weights in a list; the empty list means that no weights are named
abbrev pub named_weights : List ℕ → Option (List ℕ)
named_weights [] = None
named_weights (weight ∷ weights) = Some (weight ∷ weights)

-- the letters of all words of the evidence, one word after another
abbrev pub letters_in : Evidence → List ℕ
letters_in e = orphan_letters e.orphan ++ injective_letters e.injective ++ side_letters e.right ++ side_letters e.left ++ sum_letters e.conserving

-- the report v gives exactly the evidence e, and the letters of the words are in the list `letters`
pub record IsReportOf (letters : List ℕ) (e : Evidence) (v : RuleReport) : Type 0 where
  pub fault : v.fault ≡ 0
  pub surjective : SaysSurjective letters v.surjective v.orphan e.orphan
  pub injective : SaysInjective letters v.injective v.window v.place v.twins e.injective
  pub right : SaysSide letters v.right v.right_ahead v.right_split e.right
  pub left : SaysSide letters v.left v.left_ahead v.left_split e.left
  pub is_open : v.is_open ≡ min v.right v.left
  pub conserving : SaysConserving letters v.conserving v.nodes v.flux v.ring e.conserving
  pub reserved : v.reserved ≡ replicate 8 0

-- the report that has only the number of a fault
abbrev pub no_report : ℕ → RuleReport
no_report fault = record {
  fault = fault;
  surjective = 0;
  injective = 0;
  right = 0;
  left = 0;
  is_open = 0;
  conserving = 0;
  nodes = 0;
  window = 0;
  place = 0;
  right_ahead = 0;
  left_ahead = 0;
  flux = replicate 16 (pos 0);
  orphan = no_row;
  twins = no_twins;
  ring = no_row;
  right_split = no_split;
  left_split = no_split;
  reserved = replicate 8 0;
}

-- the report and the letters that belong to a rule and weights: the right report and the letters of its words, or a fault and no letters
pub data IsReported (r : LocalRule) (weights : Option (List ℕ)) : RuleReport → List ℕ → Type 0 where
  -- if no rule has these states, width, offset and table, the report has the code of the fault, and there are no letters
  NoRule : (f : RuleFault) → rule_fault r.states r.width r.offset r.table ≡ Some f → IsReported r weights (no_report (fault_code (Some f))) []
  -- if there isn't one weight for each letter, the report has the fault 18, and there are no letters
  NoWeights : IsRule r → ¬ AreFor weights r → IsReported r weights (no_report 18) []
  -- if there is no fault, the report is the right answer, and the letters are the letters of its words
  Found : (e : Evidence) (v : RuleReport) → IsRule r → IsFinding (Question.Report r weights) (Finding.Report e) → IsReportOf (letters_in e) e v
      → IsReported r weights v (letters_in e)

-- the code, the length, the report and the buffer that a call returns; before the call, the report was `was` and the buffer had the letters `before`
pub data IsReportCall (r : LocalRule) (weights : Option (List ℕ)) (was : RuleReport) (before : List ℕ) : ℕ → ℕ → RuleReport → List ℕ → Type 0 where
  -- if the buffer has room for all letters, the call returns the code 0, the number of letters, the report, and the letters at the beginning of the buffer
  Whole : (v : RuleReport) (letters : List ℕ) → IsReported r weights v letters → length letters ≤ length before
      → IsReportCall r weights was before 0 (length letters) v (letters ++ drop (length letters) before)
  -- if the buffer is too short for the letters, the call returns the code 10 and the number of letters, and leaves the report and the buffer as they were
  Short : (v : RuleReport) (letters : List ℕ) → IsReported r weights v letters → length before < length letters
      → IsReportCall r weights was before 10 (length letters) was before
  -- if there is no memory, the call returns the code 8 and the length 0, and leaves the report and the buffer as they were
  Memory : IsReportCall r weights was before 8 0 was before
