-- What a report says, where letters are added behind its words, and what comes of the question for a report.
use Rattle.std.proofs.Common.{◌≡◌, ℕ, ◌≤◌, List, ◌++◌, length, drop, Option, Some, None, sym, ap, [], arith}
use Rattle.word_image.proofs.Common.{LocalRule, IsRule, rule_fault}
use Rattle.word_image.specs.declared.local_rule.RuleFault.{RuleFault}
use Rattle.cert_values.specs.Evidence.{Window, Twins, Ahead, Split}
use Rattle.cert_values.proofs.Common.{InjectiveEvidence, SideEvidence}
use Rattle.certificate_laws.specs.LeastEvidence.{Evidence}
use Rattle.ca_questions.proofs.Common.{Question, Finding, AreFor, IsFinding}
use Rattle.c_structs.specs.declared.rule_reports.RuleReport.{RuleReport}
use Rattle.c_structs.specs.declared.letter_rows.LetterRow.{LetterRow}
use Rattle.c_structs.specs.declared.letter_rows.TwinRows.{TwinRows}
use Rattle.c_structs.specs.declared.letter_rows.SplitRows.{SplitRows}
use Rattle.c_structs.specs.Verdicts.{fault_code}
use Rattle.c_structs.specs.ReportParts.{SaysSurjective, SaysInjective, SaysSide}
use Rattle.c_structs.specs.Reports.{IsReported, IsReportOf, IsReportCall, letters_in, no_report}
use Rattle.c_structs.proofs.laws.LetterRows.{IsGrown, IsRow-grown, AreTwinRows-grown, AreSplitRows-grown}

-- what is said of surjective stays so where letters are added
pub SaysSurjective-grown : (letters after : List ℕ) (holds : ℕ) (row : LetterRow) (orphan : Option (List ℕ)) → IsGrown letters after
    → SaysSurjective letters holds row orphan → SaysSurjective after holds row orphan
SaysSurjective-grown letters after holds row None grown h = h
SaysSurjective-grown letters after holds row (Some w) grown h = (h.0, IsRow-grown grown h.1)

-- what is said of injective stays so where letters are added
pub SaysInjective-grown : (letters after : List ℕ) (holds window place : ℕ) (twins : TwinRows) (e : InjectiveEvidence) → IsGrown letters after
    → SaysInjective letters holds window place twins e → SaysInjective after holds window place twins e
SaysInjective-grown letters after holds window place twins (Window n c) grown h = h
SaysInjective-grown letters after holds window place twins (Twins x y) grown h = (h.0, h.1, h.2, AreTwinRows-grown grown h.3)

-- what is said of closing on a side stays so where letters are added
pub SaysSide-grown : (letters after : List ℕ) (holds ahead : ℕ) (split : SplitRows) (e : SideEvidence) → IsGrown letters after
    → SaysSide letters holds ahead split e → SaysSide after holds ahead split e
SaysSide-grown letters after holds ahead split (Ahead n) grown h = h
SaysSide-grown letters after holds ahead split (Split x y) grown h = (h.0, h.1, AreSplitRows-grown grown h.2)

-- the report that is written is the right one
pub IsReported-written : {r : LocalRule} {weights : Option (List ℕ)} {e : Evidence} {v : RuleReport} {letters : List ℕ} → IsRule r
    → IsFinding (Question.Report r weights) (Finding.Report e)
    → letters ≡ letters_in e → IsReportOf letters e v → IsReported r weights v letters
IsReported-written {e = e} {v = v} rule fits same says = rw same (IsReported.Found e v rule fits (rw same at says))

-- there is no report where there isn't one weight for each letter
pub IsReported-none : {r : LocalRule} {weights : Option (List ℕ)} {v : RuleReport} {letters : List ℕ} → IsRule r → ¬ AreFor weights r
    → v ≡ no_report 18 → letters ≡ [] → IsReported r weights v letters
IsReported-none rule none same empty = rw (same, empty) (IsReported.NoWeights rule none)

-- there is no report where there is no rule
pub IsReported-fault : (r : LocalRule) {weights : Option (List ℕ)} {v : RuleReport} {letters : List ℕ} {code : ℕ} (f : RuleFault)
    → Some f ≡ rule_fault r.states r.width r.offset r.table
    → code ≡ fault_code (Some f) → v ≡ no_report code → letters ≡ [] → IsReported r weights v letters
IsReported-fault r f fault coded same empty = rw (same, empty, coded) (IsReported.NoRule f (sym fault))

-- the report is handed back, and all letters
pub IsReportCall-whole : {r : LocalRule} {weights : Option (List ℕ)} {was v : RuleReport} {before after letters bytes : List ℕ} {len : ℕ}
    → IsReported r weights v letters → len ≡ length letters
    → bytes ≡ letters → length bytes ≤ length before → after ≡ bytes ++ drop (length bytes) before → IsReportCall r weights was before 0 len v after
IsReportCall-whole {v = v} {letters = letters} made long same fits put = rw (long, put, same) (IsReportCall.Whole v letters made (rw same at fits))

-- the length of letters that don't fit
pub IsReportCall-short : {r : LocalRule} {weights : Option (List ℕ)} {was v : RuleReport} {before after letters bytes : List ℕ} {len : ℕ}
    → IsReported r weights v letters → len ≡ length letters
    → bytes ≡ letters → ¬ (length bytes ≤ length before) → after ≡ before → IsReportCall r weights was before 10 len was after
IsReportCall-short {v = v} {letters = letters} made long same over kept = rw (long, kept) (IsReportCall.Short v letters made (omega (arith, over, ap length same)))
