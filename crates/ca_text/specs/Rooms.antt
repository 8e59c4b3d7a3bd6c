-- An output has room for a text from the start. This file says how long this text may be, and what it means that a text is
-- appended to an output.
use Rattle.std.specs.Prelude.{ℕ, ◌≡◌, ◌≢◌, alloc_error, ◌+◌, ◌≤◌, List, ◌++◌, length, Result, OnOk, IsOk, ⊤}
use Rattle.word_image.specs.LocalRules.{most_sets}
use Rattle.tail_preimage.specs.Lengths.{most_stretch}
use Rattle.cert_conditions.specs.declared.refusal.Refusal.{Refusal}
use Rattle.ca_questions.specs.Findings.{Finding, Cause}
use Rattle.ca_questions.specs.Replies.{Reply}

-- the number of bytes for which an output has room when it is made
abbrev pub most_text : ℕ
most_text = 6291600

-- if there is no error, the text has been appended to the output; and there is no error if the old output and the text together fit the room
abbrev pub IsAppended : {A E : Type 0} → Result A E → List ℕ → List ℕ → List ℕ → Type 0
IsAppended result old new text = OnOk result (new ≡ old ++ text) × (length old + length text ≤ most_text → IsOk result)

-- at most `count` bytes are appended to an output, and there is no error if as many fit its room
abbrev pub AppendsAtMost : {A E : Type 0} → ℕ → Result A E → List ℕ → List ℕ → Type 0
AppendsAtMost count result old new = length old + count ≤ most_text → IsOk result × (length new ≤ length old + count)

-- the finding isn't a certificate
abbrev pub IsShortFinding : Finding → Type 0
IsShortFinding (Finding.Written c) = ⊥
IsShortFinding _ = ⊤

-- the reply is a short finding or no finding, and it isn't about a certificate
abbrev pub IsShortReply : Reply → Type 0
IsShortReply (Reply.Found f) = IsShortFinding f
IsShortReply (Reply.Accepted v) = ⊥
IsShortReply (Reply.Refused f) = ⊥
IsShortReply _ = ⊤

-- the reply has a text of a few lines, whatever the rule: a number, a rule, counts, a cause other than twins, a fault, or words that are no command
abbrev pub IsSmallReply : Reply → Type 0
IsSmallReply (Reply.Found (Finding.Number n)) = ⊤
IsSmallReply (Reply.Found (Finding.Rule r)) = ⊤
IsSmallReply (Reply.Found (Finding.Summary t)) = ⊤
IsSmallReply (Reply.Found _) = ⊥
IsSmallReply (Reply.NotFit (Cause.Twins x y)) = ⊥
IsSmallReply (Reply.Accepted v) = ⊥
IsSmallReply (Reply.Refused f) = ⊥
IsSmallReply _ = ⊤

-- an output has room for the text of the reply: it isn't a certificate or lack of memory, an automaton has at most 65,536 classes, and a preimage or a gap has at most 33,792 letters
abbrev pub FitsRoom : Reply → Type 0
FitsRoom (Reply.Found (Finding.Preimage p)) = length p.config.left + length p.config.middle + length p.config.right ≤ most_stretch
FitsRoom (Reply.Found (Finding.Gap before after w)) = length w ≤ most_stretch
FitsRoom (Reply.Found (Finding.Written c)) = ⊥
FitsRoom (Reply.Found (Finding.Language m)) = m.classes ≤ most_sets
FitsRoom (Reply.Refused f) = f ≢ Refusal.Memory alloc_error
FitsRoom _ = ⊤
