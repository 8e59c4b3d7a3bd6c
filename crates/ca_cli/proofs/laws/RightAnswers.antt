-- What the right answers to words have in common.
use Rattle.std.proofs.Common.{ℕ, List, sym, subst, Option}
use Rattle.ca_questions.proofs.Common.{Reply}
use Rattle.ca_cli.specs.declared.status.Status.{Status}
use Rattle.ca_cli.specs.Statuses.{IsAnswered, reply_status}
use Rattle.ca_cli.specs.RightAnswers.{IsAnswer}

-- no answer is a failed write or want of memory
answered : (reply : Reply) → IsAnswered (reply_status reply)
answered (Reply.Found f) = tt
answered _ = tt

pub IsAnswered-answer : {words : List (List ℕ)} {input : Option (List ℕ)} {s : Status} {out : List ℕ} → IsAnswer words input s out → IsAnswered s
IsAnswered-answer is = subst IsAnswered (sym is.status_is) (answered is.reply)
