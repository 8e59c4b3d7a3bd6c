use Rattle.std.proofs.Common.{refl}
use Rattle.ca_commands.specs.Commands.{check_command}
use Rattle.ca_cli.specs.RightAnswers.{IsReply}
use Rattle.answer_laws.proofs.RightAnswers.{right_exactly}
use Rattle.answer_laws.proofs.Replies.{ReadsOne-told, answer_exactly}
use Rattle.answer_laws.proofs.CheckAnswers.{accepted_right, one_of_three}
use Rattle.answer_laws.proofs.statuses.check_exactly.Goals as goal

pub returns-clause-done : goal.returns-clause-done
returns-clause-done c words left v s out is short accepted = answer_exactly is (λ check. ReadsOne-told left) (accepted_right short accepted)

pub returns-clause-refused : goal.returns-clause-refused
returns-clause-refused c words left f s out is short refused =
    answer_exactly is (λ check. ReadsOne-told left) (IsReply.Refused check_command left f refl (record { all = refl; short = short }) refused)

pub returns-clause-too_long : goal.returns-clause-too_long
returns-clause-too_long c words left s out is long = answer_exactly is (λ check. ReadsOne-told left) (IsReply.TooLong check_command refl long)

pub returns-clause-any : goal.returns-clause-any
returns-clause-any c words input s out is answer = let (reply, right, same, text) = (right_exactly is).0 answer in one_of_three is refl right same
