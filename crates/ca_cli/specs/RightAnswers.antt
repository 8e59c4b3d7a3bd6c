-- The right status and the right output for the words of a command line. `input` has the bytes that the source had
-- left, or is None if the source doesn't tell them.
use Rattle.std.specs.Prelude.{◌≡◌, ℕ, List, Option}
use Rattle.rule_text.specs.declared.text_fault.TextFault.{TextFault}
use Rattle.cert_conditions.specs.Accepted.{IsAccepted, AreTrue}
use Rattle.cert_conditions.specs.Refusals.{IsRefusal}
use Rattle.cert_conditions.specs.declared.refusal.Refusal.{Refusal}
use Rattle.cert_conditions.specs.declared.verdicts.Verdicts.{Verdicts}
use Rattle.ca_commands.specs.declared.names.Name.TheVariants as name
use Rattle.ca_commands.specs.Commands.{Command, IsCommand}
use Rattle.ca_questions.specs.Questions.{Question}
use Rattle.ca_questions.specs.Findings.{Finding, Cause, IsFinding, IsCauseFor}
use Rattle.ca_questions.specs.Replies.{Reply}
use Rattle.ca_text.specs.Replies.{reply_text}
use Rattle.ca_cli.specs.declared.status.Status.{Status}
use Rattle.ca_cli.specs.Statuses.{reply_status}
use Rattle.ca_commands.specs.Asked.{IsAsked, IsOperandFault}
use Rattle.ca_cli.specs.Inputs.{IsWholeInput, IsLongInput}

-- the reply is right for the command: a right answer or cause for its question, the fault of an operand, or the result of judging the input
pub data IsReply (input : Option (List ℕ)) : Command → Reply → Type 0 where
  Found : (c : Command) (q : Question) (f : Finding) → IsAsked c q → IsFinding q f → IsReply input c (Reply.Found f)
  NotFit : (c : Command) (q : Question) (u : Cause) → IsAsked c q → IsCauseFor q u → IsReply input c (Reply.NotFit u)
  RuleFault : (c : Command) (i : ℕ) (f : TextFault) → IsOperandFault c i f → IsReply input c (Reply.RuleFault i f)
  Accepted : (c : Command) (bytes : List ℕ) (v : Verdicts) → c.name ≡ name.Check → IsWholeInput input bytes → IsAccepted bytes v → AreTrue v → IsReply input c (Reply.Accepted v)
  Refused : (c : Command) (bytes : List ℕ) (f : Refusal) → c.name ≡ name.Check → IsWholeInput input bytes → IsRefusal bytes f → IsReply input c (Reply.Refused f)
  TooLong : (c : Command) → c.name ≡ name.Check → IsLongInput input → IsReply input c Reply.TooLong

-- some right reply to the command has this status and this output
abbrev pub IsReplyOf : Option (List ℕ) → Command → Status → List ℕ → Type 0
IsReplyOf input c s out = (reply : Reply) × IsReply input c reply × (s ≡ reply_status reply) × (out ≡ reply_text reply)

-- the reply is right for the words: they are no command and it says so, or it is right for their command
pub data IsReplyTo (words : List (List ℕ)) (input : Option (List ℕ)) : Reply → Type 0 where
  Usage : ((c : Command) → ¬ IsCommand words c) → IsReplyTo words input Reply.Usage
  Right : (c : Command) (reply : Reply) → IsCommand words c → IsReply input c reply → IsReplyTo words input reply

-- some right reply to the words has this status and this output
pub record IsAnswer (words : List (List ℕ)) (input : Option (List ℕ)) (s : Status) (out : List ℕ) : Type 0 where
  pub reply : Reply
  pub right : IsReplyTo words input reply
  pub status_is : s ≡ reply_status reply
  pub output_is : out ≡ reply_text reply
