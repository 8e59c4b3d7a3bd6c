-- What is handed back, in the words of the code.
use Rattle.std.proofs.Common.{◌≡◌, ℕ, ◌≤◌, List, ◌++◌, length, drop, ap, arith}
use Rattle.ca_questions.proofs.Common.{Reply}
use Rattle.ca_cli.specs.declared.status.Status.{Status}
use Rattle.ca_cli.specs.Statuses.{code_of}
use Rattle.ca_c.specs.Calls.{IsAnswerIn, IsHandedBack}

-- an output that fits the buffer is handed back whole
pub IsHandedBack-whole : {form : Reply → List ℕ} {block input before after output bytes : List ℕ} {status : Status} {code len : ℕ}
    → IsAnswerIn form block input status output → code ≡ code_of status → len ≡ length output
    → bytes ≡ output → length bytes ≤ length before → after ≡ bytes ++ drop (length bytes) before
    → IsHandedBack form block input before code len after
IsHandedBack-whole {output = output} {status = status} answer coded long same fits put =
    rw (put, same, coded, long) (IsHandedBack.Whole status output answer (rw same at fits))

-- the length of an output that doesn't fit
pub IsHandedBack-short : {form : Reply → List ℕ} {block input before after output bytes : List ℕ} {status : Status} {len : ℕ}
    → IsAnswerIn form block input status output → len ≡ length output
    → bytes ≡ output → ¬ (length bytes ≤ length before) → after ≡ before → IsHandedBack form block input before 10 len after
IsHandedBack-short {output = output} {status = status} answer long same over kept = rw (kept, long) (IsHandedBack.Short status output answer (omega (arith, over, ap length same)))
