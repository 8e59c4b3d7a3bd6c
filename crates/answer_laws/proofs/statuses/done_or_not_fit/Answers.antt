use Rattle.std.proofs.Common.{◌∙◌}
use Rattle.ca_commands.proofs.laws.Asked.{IsAsked-reads_nothing}
use Rattle.ca_cli.specs.RightAnswers.{IsReply}
use Rattle.answer_laws.proofs.RightAnswers.{right_exactly, done_says}
use Rattle.answer_laws.proofs.Replies.{answer_exactly}
use Rattle.answer_laws.proofs.statuses.done_or_not_fit.Goals as goal

pub returns-clause-done : goal.returns-clause-done
returns-clause-done c words input command s out is reads accepted fits answer = let (reply, right, same, text) = (right_exactly is).0 answer in same ∙ done_says is reads accepted fits right

pub returns-clause-not_fit : goal.returns-clause-not_fit
returns-clause-not_fit c words input command q cause s out is asked unfits answer =
    ((answer_exactly is (λ check. absurd (IsAsked-reads_nothing asked check)) (IsReply.NotFit command q cause asked unfits)).0 answer).0
