use Rattle.std.proofs.Common.{refl}
use Rattle.ca_questions.proofs.Common.{Reply}
use Rattle.ca_cli.specs.RightAnswers.{IsReply, IsReplyTo}
use Rattle.answer_laws.proofs.RightAnswers.{rule_fault_says}
use Rattle.answer_laws.proofs.statuses.rule_fault_exactly.Goals as goal

pub returns : goal.returns
returns c words input out =
    (rule_fault_says, (λ (command, i, f, is, fault, line). record { reply = Reply.RuleFault i f; right = IsReplyTo.Right command (Reply.RuleFault i f) is (IsReply.RuleFault command i f fault); status_is = refl; output_is = line }))
