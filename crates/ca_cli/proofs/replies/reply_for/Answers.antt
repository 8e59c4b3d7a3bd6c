use Rattle.std.proofs.Common.{inr, subst}
use Rattle.ca_questions.specs.Values.{Answers, IsStopFor}
use Rattle.ca_cli.specs.RightAnswers.{IsReply, IsReplyTo}
use Rattle.ca_cli.proofs.replies.reply_for.Goals as goal

pub returns-in-Ok : goal.returns-in-Ok
returns-in-Ok c words input q ask right = IsReplyTo.Right ask.command _ ask.is (IsReply.Found ask.command q _ ask.asked (subst (Answers q) c.in-Ok.is right))

pub returns-in-Err-NotFit : goal.returns-in-Err-NotFit
returns-in-Err-NotFit c words input q ask right =
    let unfits = subst (IsStopFor q) c.in-Err-NotFit.field-0-is (subst (Answers q) c.in-Err-NotFit.is right) in
    IsReplyTo.Right ask.command _ ask.is (IsReply.NotFit ask.command q _ ask.asked unfits)

pub returns-in-Err-Memory : goal.returns-in-Err-Memory
returns-in-Err-Memory c words input q ask right = inr (q, ask, subst (IsStopFor q) c.in-Err-Memory.field-0-is (subst (Answers q) c.in-Err-Memory.is right))
