-- The code has types for findings, causes and replies. This file says which finding, cause or reply of the definitions
-- a value of these types represents, and which results are right for a question.
use Rattle.std.specs.Prelude.{ℕ, List, Option, Some, None, Result, MatchResult}
use Rattle.rule_verdicts.specs.Reports.{evidence_of}
use Rattle.short_words.specs.declared.short_word.ShortPair.{ShortPair}
use Rattle.image_minimal.specs.ImageLanguages as languages
use Rattle.tail_preimage.specs.Answers.{placed_config, placed_of_lent}
use Rattle.tail_preimage.specs.declared.answer.LentPre.{LentPre}
use Rattle.tail_preimage.specs.declared.answer.LentPre.TheVariants.{From, Gap}
use Rattle.ca_questions.specs.declared.found.Finding as lent
use Rattle.ca_questions.specs.declared.found.Finding.TheVariants as finding
use Rattle.ca_questions.specs.declared.found.Cause as coded
use Rattle.ca_questions.specs.declared.found.Cause.TheVariants as cause
use Rattle.ca_questions.specs.declared.found.Stop.{Stop}
use Rattle.ca_questions.specs.declared.found.Stop.TheVariants as stop
use Rattle.ca_questions.specs.declared.found.Automaton as automaton
use Rattle.ca_questions.specs.declared.found.Counts as counted
use Rattle.ca_questions.specs.declared.reply.Reply as said
use Rattle.ca_questions.specs.declared.reply.Reply.TheVariants as reply
use Rattle.ca_questions.specs.Counts.{Counts}
use Rattle.ca_questions.specs.Questions.{AnswerNeedsMemory, Question}
use Rattle.ca_questions.specs.Findings.{Finding, Cause, IsFinding, IsCauseFor}
use Rattle.ca_questions.specs.Replies.{Reply}

abbrev pub automaton_of : automaton.Automaton → languages.Automaton
automaton_of m = record { states = m.states; classes = m.classes; next = m.next.now; dead = m.dead }

abbrev pub counts_of : counted.Counts → Counts
counts_of t = record {
  rules = t.rules;
  surjective = t.surjective;
  injective = t.injective;
  right = t.right;
  left = t.left;
  open_ = t.open;
  conserving = t.conserving;
}

abbrev pub pair_of : Option ShortPair → Option (List ℕ × List ℕ)
pair_of None = None
pair_of (Some p) = Some (p.x, p.y)

abbrev pub preimage_of : LentPre → Finding
preimage_of (From p) = Finding.Preimage (placed_config (placed_of_lent p))
preimage_of (Gap before after w) = Finding.Gap before after w.now

-- the finding that a value of the code represents
abbrev pub finding_of : lent.Finding → Finding
finding_of (finding.Report e) = Finding.Report (evidence_of e)
finding_of (finding.Written c) = Finding.Written c
finding_of (finding.Orphan w) = Finding.Orphan w
finding_of (finding.Number n) = Finding.Number n
finding_of (finding.Rule r) = Finding.Rule r
finding_of (finding.Inverse i) = Finding.Inverse i.n i.c i.map i.rule
finding_of (finding.Language m) = Finding.Language (automaton_of m)
finding_of (finding.Same w) = Finding.Same w
finding_of (finding.Erased p) = Finding.Erased (pair_of p)
finding_of (finding.Preimage p) = preimage_of p
finding_of (finding.Summary t) = Finding.Summary (counts_of t)
finding_of (finding.Classes t n) = Finding.Classes (counts_of t) n

-- the cause that a value of the code represents
abbrev pub cause_of : coded.Cause → Cause
cause_of (cause.Twins p) = Cause.Twins p.x p.y
cause_of (cause.Wide n) = Cause.Wide n
cause_of cause.Colours = Cause.Colours
cause_of (cause.Lift f) = Cause.Lift f
cause_of (cause.Algebra f) = Cause.Algebra f
cause_of (cause.Tail f) = Cause.Tail f
cause_of cause.Weights = Cause.Weights
cause_of cause.States = Cause.States

-- the result is right for a question that needs no memory: a right finding, or a right cause why there is none
abbrev pub Settles : Question → Result lent.Finding coded.Cause → Type 0
Settles q result = MatchResult result (λ f. IsFinding q (finding_of f)) (λ u. IsCauseFor q (cause_of u))

-- the reason is right for a question without a finding: a right cause, or that there is no memory
abbrev pub IsStopFor : Question → Stop → Type 0
IsStopFor q (stop.NotFit u) = IsCauseFor q (cause_of u)
IsStopFor q (stop.Memory _) = AnswerNeedsMemory q

-- the result is right for the question: a right finding, a right cause why there is none, or that there is no memory
abbrev pub Answers : Question → Result lent.Finding Stop → Type 0
Answers q result = MatchResult result (λ f. IsFinding q (finding_of f)) (IsStopFor q)

-- the reply that a value of the code represents
abbrev pub reply_of : said.Reply → Reply
reply_of (reply.Found f) = Reply.Found (finding_of f)
reply_of (reply.NotFit u) = Reply.NotFit (cause_of u)
reply_of (reply.RuleFault operand f) = Reply.RuleFault operand f
reply_of (reply.Accepted v) = Reply.Accepted v
reply_of (reply.Refused f) = Reply.Refused f
reply_of reply.TooLong = Reply.TooLong
reply_of reply.Usage = Reply.Usage
