use Rattle.std.proofs.Common.{inl, refl, None}
use Rattle.word_image.proofs.Common.{IfOk-weaker}
use Rattle.ca_commands.specs.Commands.{check_command}
use Rattle.ca_cli.specs.RightAnswers.{IsReplyTo}
use Rattle.ca_cli.proofs.replies.reply.Goals as goal

pub returns-then-is_check-clause-reply : goal.returns-then-is_check-clause-reply
returns-then-is_check-clause-reply g c =
    let is = c.is_check.ensures.0 c.if-is_check.true in IfOk-weaker c.judge_input.result _ _ (λ reply right. IsReplyTo.Right check_command _ is (right check_command refl)) c.judge_input.ensures.reply

pub returns-then-is_check-clause-memory : goal.returns-then-is_check-clause-memory
returns-then-is_check-clause-memory g c e same = inl (check_command, c.is_check.ensures.0 c.if-is_check.true, refl)

pub returns-in_err-reply_for-in-Ok-clause-memory : goal.returns-in_err-reply_for-in-Ok-clause-memory
returns-in_err-reply_for-in-Ok-clause-memory g c e same = c.in_err-reply_for-in-Ok.ensures _ None _ c.in-Ok.ensures.0 c.answer.ensures

pub returns-in_ok-reply_for-in-Ok-clause-reply : goal.returns-in_ok-reply_for-in-Ok-clause-reply
returns-in_ok-reply_for-in-Ok-clause-reply g c = c.in_ok-reply_for-in-Ok.ensures _ _ _ c.in-Ok.ensures.0 c.answer.ensures

pub returns-in-Err-clause-reply : goal.returns-in-Err-clause-reply
returns-in-Err-clause-reply g c = c.given_up.ensures _ _ c.in-Err.ensures
