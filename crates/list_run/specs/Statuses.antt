-- The program ends with a status, which has an exit code. This file defines the codes.
use Rattle.std.specs.Prelude.{ℕ, ⊤}
use Rattle.list_run.specs.declared.status.Status.{Status}
use Rattle.list_run.specs.declared.status.Status.TheVariants.{Done, Usage, RuleFault, WriteFault, Memory}

-- the exit code of the program for a status
abbrev pub code_of : Status → ℕ
code_of Done = 0
code_of Usage = 2
code_of RuleFault = 3
code_of WriteFault = 7
code_of Memory = 8

-- the status belongs to an answer, and not to a failure before the end, such as a failed write
abbrev pub IsAnswered : Status → Type 0
IsAnswered Done = ⊤
IsAnswered Usage = ⊤
IsAnswered RuleFault = ⊤
IsAnswered WriteFault = ⊥
IsAnswered Memory = ⊥
