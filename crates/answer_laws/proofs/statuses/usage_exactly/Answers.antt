use Rattle.std.proofs.Common.{refl}
use Rattle.ca_questions.proofs.Common.{Reply}
use Rattle.ca_cli.specs.RightAnswers.{IsReplyTo}
use Rattle.answer_laws.proofs.RightAnswers.{usage_says}
use Rattle.answer_laws.proofs.statuses.usage_exactly.Goals as goal

pub returns : goal.returns
returns c words input out = (usage_says, (λ (none, line). record { reply = Reply.Usage; right = IsReplyTo.Usage none; status_is = refl; output_is = line }))
