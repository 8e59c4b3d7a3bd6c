use Rattle.std.proofs.Common.{refl}
use Rattle.ca_commands.specs.declared.names.Name.TheVariants as name
use Rattle.ca_commands.specs.Asked.{Asks}
use Rattle.ca_questions.proofs.Common.{Question}
use Rattle.ca_commands.proofs.laws.Asking.{asks, failed}
use Rattle.ca_commands.proofs.laws.Numbered.{asks_numbers, asks_seed}
use Rattle.ca_commands.proofs.asking.named_question.Goals as goal

pub returns-in_ok-rule-in-Decide : goal.returns-in_ok-rule-in-Decide
returns-in_ok-rule-in-Decide g c = let (operands, call, same) = c.in_ok-rule-in-Decide.ensures in (rw same (asks c.in-Decide.is call (Asks.Decide _ operands)), tt)

pub returns-in_ok-rule-in-Certify : goal.returns-in_ok-rule-in-Certify
returns-in_ok-rule-in-Certify g c = let (operands, call, same) = c.in_ok-rule-in-Certify.ensures in (rw same (asks c.in-Certify.is call (Asks.Certify _ operands)), refl)

pub returns-in_ok-rule-in-Brief : goal.returns-in_ok-rule-in-Brief
returns-in_ok-rule-in-Brief g c = let (operands, call, same) = c.in_ok-rule-in-Brief.ensures in (rw same (asks c.in-Brief.is call (Asks.Brief _ operands)), refl)

pub returns-in_err-numbered-in-Survey : goal.returns-in_err-numbered-in-Survey
returns-in_err-numbered-in-Survey g c = rw c.in-Survey.is (failed _ _ _ c.from_residual-in_err-numbered-in-Survey.result (c.in_err-numbered-in-Survey.ensures name.Survey refl refl) c.from_residual-in_err-numbered-in-Survey.ensures.1)

pub returns-in_ok-numbered-in-Survey : goal.returns-in_ok-numbered-in-Survey
returns-in_ok-numbered-in-Survey g c = let read = c.in_ok-numbered-in-Survey.ensures name.Survey refl refl in rw c.in-Survey.is (asks_numbers name.Survey Question.Summary Asks.Survey read, read.are)

pub returns-in_err-numbered-in-Classes : goal.returns-in_err-numbered-in-Classes
returns-in_err-numbered-in-Classes g c = rw c.in-Classes.is (failed _ _ _ c.from_residual-in_err-numbered-in-Classes.result (c.in_err-numbered-in-Classes.ensures name.Classes refl refl) c.from_residual-in_err-numbered-in-Classes.ensures.1)

pub returns-in_ok-numbered-in-Classes : goal.returns-in_ok-numbered-in-Classes
returns-in_ok-numbered-in-Classes g c = let read = c.in_ok-numbered-in-Classes.ensures name.Classes refl refl in rw c.in-Classes.is (asks_numbers name.Classes Question.Classes Asks.Classes read, read.are)

pub returns-in_err-drawn-in-Sample : goal.returns-in_err-drawn-in-Sample
returns-in_err-drawn-in-Sample g c = rw c.in-Sample.is (failed _ _ _ c.from_residual-in_err-drawn-in-Sample.result c.in_err-drawn-in-Sample.ensures c.from_residual-in_err-drawn-in-Sample.ensures.1)

pub returns-in_ok-drawn-in-Sample : goal.returns-in_ok-drawn-in-Sample
returns-in_ok-drawn-in-Sample g c = rw c.in-Sample.is (asks_seed c.in_ok-drawn-in-Sample.ensures, c.in_ok-drawn-in-Sample.ensures.are)
