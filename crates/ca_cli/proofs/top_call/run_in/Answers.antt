use Rattle.std.proofs.Common.{◌≡◌, ℕ, List, subst, Option}
use Rattle.ca_cli.specs.declared.status.Status.{Status}
use Rattle.ca_cli.specs.RightAnswers.{IsAnswer}
use Rattle.ca_cli.specs.Statuses.{IsAnswered}
use Rattle.ca_cli.proofs.laws.RightAnswers.{IsAnswered-answer}
use Rattle.ca_cli.proofs.top_call.run_in.Goals as goal

-- a status that is right for the words, by whatever name
answered : {words : List (List ℕ)} {input : Option (List ℕ)} {s t : Status} {out : List ℕ} → IsAnswer words input s out → s ≡ t → IsAnswered t
answered right same = subst IsAnswered same (IsAnswered-answer right)

pub returns-in-Ok-write_all-clause-write_counted : goal.returns-in-Ok-write_all-clause-write_counted
returns-in-Ok-write_all-clause-write_counted g c same = absurd (answered c.in-Ok.ensures.answer same)

pub returns-in-Ok-write_all-clause-write_part : goal.returns-in-Ok-write_all-clause-write_part
returns-in-Ok-write_all-clause-write_part g c same = absurd (answered c.in-Ok.ensures.answer same)

pub returns-in-Ok-write_all-clause-read_counted : goal.returns-in-Ok-write_all-clause-read_counted
returns-in-Ok-write_all-clause-read_counted g c same = absurd (answered c.in-Ok.ensures.answer same)

pub returns-in-Ok-write_all-clause-read_fault : goal.returns-in-Ok-write_all-clause-read_fault
returns-in-Ok-write_all-clause-read_fault g c same = absurd (answered c.in-Ok.ensures.answer same)

pub returns-in-Ok-write_all-clause-memory : goal.returns-in-Ok-write_all-clause-memory
returns-in-Ok-write_all-clause-memory g c same = absurd (answered c.in-Ok.ensures.answer same)
