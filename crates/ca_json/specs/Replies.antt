-- A reply is the answer to the words of a command line. This file defines the JSON value of a reply and its text.
use Rattle.std.specs.Prelude.{ℕ, List, [], ◌∷◌, codes}
use Rattle.serde_json.specs.Data.{Data, boolean, string}
use Rattle.serde_json.specs.Written.{compact_text}
use Rattle.rule_text.specs.PrintedRules.{printed_rule}
use Rattle.cert_conditions.specs.declared.verdicts.Verdicts.{Verdicts}
use Rattle.rule_text.specs.FaultTexts.{fault_name, fault_place}
use Rattle.cert_conditions.specs.RefusalParts.{parts_of}
use Rattle.cert_conditions.specs.Accepted.{is_open}
use Rattle.ca_questions.specs.Replies.{Reply}
use Rattle.ca_json.specs.Values.{object_of, status, numbers_json}
use Rattle.ca_json.specs.Findings.{finding_json}
use Rattle.ca_json.specs.Causes.{cause_json, operand_json, parts_json}

-- the JSON of the verdicts of an accepted certificate
abbrev pub verdicts_json : Verdicts → Data
verdicts_json v = object_of (
    (codes "conserving", boolean v.conserving) ∷ (codes "injective", boolean v.injective) ∷ (codes "left", boolean v.left) ∷ (codes "open", boolean (is_open v))
    ∷ (codes "right", boolean v.right) ∷ (codes "rule", string (printed_rule v.rule)) ∷ (codes "surjective", boolean v.surjective) ∷ (codes "weights", numbers_json v.weights) ∷ [])

-- the JSON object of a reply, which has a key for the status of the reply
abbrev pub json_of : Reply → Data
json_of (Reply.Found f) = object_of ((codes "finding", finding_json f) ∷ status (codes "done") ∷ [])
json_of (Reply.NotFit u) = object_of ((codes "cause", cause_json u) ∷ status (codes "notfit") ∷ [])
json_of (Reply.RuleFault operand f) = operand_json operand (fault_name f) (fault_place f)
json_of (Reply.Accepted v) = object_of (status (codes "done") ∷ (codes "verdicts", verdicts_json v) ∷ [])
json_of (Reply.Refused f) = parts_json (parts_of f)
json_of Reply.TooLong = object_of (status (codes "toolong") ∷ [])
json_of Reply.Usage = object_of (status (codes "usage") ∷ [])

-- the JSON text of a reply: its keys ascend, and it has no blanks
abbrev pub json_text : Reply → List ℕ
json_text reply = compact_text (json_of reply)
