-- A reply is the answer to the words of a command line, as a value and not as text.
use Rattle.std.specs.Prelude.{ℕ}
use Rattle.rule_text.specs.declared.text_fault.TextFault.{TextFault}
use Rattle.cert_conditions.specs.declared.refusal.Refusal.{Refusal}
use Rattle.cert_conditions.specs.declared.verdicts.Verdicts.{Verdicts}
use Rattle.ca_questions.specs.Findings.{Finding, Cause}

-- a reply: a finding, a cause why there is none, the fault of an operand, the verdicts or the refusal of a certificate, an input that is too long, or words that are no command
pub data Reply : Type 0 where
  Found : (finding : Finding) → Reply
  NotFit : (cause : Cause) → Reply
  RuleFault : (operand : ℕ) (fault : TextFault) → Reply
  Accepted : (verdicts : Verdicts) → Reply
  Refused : (refusal : Refusal) → Reply
  TooLong : Reply
  Usage : Reply
