-- A reply is the answer to the words of a command line. This file defines the text that the program prints for a
-- reply.
use Rattle.std.specs.Prelude.{ℕ, List}
use Rattle.ca_questions.specs.Replies.{Reply}
use Rattle.ca_text.specs.Texts.{text_of, cause_text}
use Rattle.ca_text.specs.StatusLines.{usage_line, operand_fault_line, not_fit_line, accepted_lines, refused_line, too_long_line}

-- the text that the program prints for a reply
abbrev pub reply_text : Reply → List ℕ
reply_text (Reply.Found f) = text_of f
reply_text (Reply.NotFit u) = not_fit_line (cause_text u)
reply_text (Reply.RuleFault i f) = operand_fault_line i f
reply_text (Reply.Accepted v) = accepted_lines v
reply_text (Reply.Refused f) = refused_line f
reply_text Reply.TooLong = too_long_line
reply_text Reply.Usage = usage_line
