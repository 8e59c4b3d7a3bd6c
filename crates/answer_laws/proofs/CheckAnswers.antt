-- The right replies to `check`.
use Rattle.std.proofs.Common.{◌≡◌, ℕ, ◌≤◌, List, length, refl, Some, Option, inl, inr, ◌⊎◌}
use Rattle.cert_conditions.proofs.Common.{IsAccepted, AreTrue-accepted}
use Rattle.cert_conditions.specs.declared.verdicts.Verdicts.{Verdicts}
use Rattle.ca_commands.specs.declared.names.Name.TheVariants as name
use Rattle.ca_commands.specs.Commands.{Command, IsCommand, check_command}
use Rattle.ca_questions.proofs.Common.{Reply}
use Rattle.ca_cli.specs.declared.status.Status.{Status}
use Rattle.ca_cli.specs.declared.status.Status.TheVariants as status
use Rattle.ca_cli.specs.Inputs.{most_input}
use Rattle.ca_cli.specs.Statuses.{reply_status}
use Rattle.ca_cli.specs.RightAnswers.{IsReply}
use Rattle.ca_cli.specs.RightAnswers.IsReply.{Accepted, Refused, TooLong}
use Rattle.answer_laws.proofs.RightAnswers.{says_of}

-- to say the verdicts of an input that is accepted is right
pub accepted_right : {left : List ℕ} {v : Verdicts} → length left ≤ most_input → IsAccepted left v
    → IsReply (Some left) check_command (Reply.Accepted v)
accepted_right {left} {v} short accepted = Accepted check_command left v refl (record { all = refl; short = short }) accepted (AreTrue-accepted accepted)

-- whatever the source tells, a reply to `check` has one of three statuses
pub one_of_three : {words : List (List ℕ)} {input : Option (List ℕ)} {c : Command} {reply : Reply} {s : Status} → IsCommand words c
    → c.name ≡ name.Check → IsReply input c reply → s ≡ reply_status reply
    → (s ≡ status.Done) ⊎ ((s ≡ status.Refused) ⊎ (s ≡ status.TooLong))
one_of_three is check (Accepted c bytes v _ whole accepted are_true) same = inl same
one_of_three is check (Refused c bytes f _ whole refused) same = inr (inl same)
one_of_three is check (TooLong c _ long) same = inr (inr same)
one_of_three is check asked same = absurd (says_of is asked check)
