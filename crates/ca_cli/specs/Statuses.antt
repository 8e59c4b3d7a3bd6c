-- The program ends with a status, which has an exit code. This file defines the codes, and the status of each reply.
use Rattle.std.specs.Prelude.{ℕ, ⊤}
use Rattle.ca_questions.specs.Replies.{Reply}
use Rattle.ca_cli.specs.declared.status.Status.{Status}
use Rattle.ca_cli.specs.declared.status.Status.TheVariants.{Done, Refused, Usage, RuleFault, NotFit, TooLong, ReadFault, WriteFault, Memory}

-- the exit code of the program for a status
abbrev pub code_of : Status → ℕ
code_of Done = 0
code_of Refused = 1
code_of Usage = 2
code_of RuleFault = 3
code_of NotFit = 4
code_of TooLong = 5
code_of ReadFault = 6
code_of WriteFault = 7
code_of Memory = 8

-- the status belongs to an answer, and not to a failure before the end, such as a failed write
abbrev pub IsAnswered : Status → Type 0
IsAnswered Done = ⊤
IsAnswered Refused = ⊤
IsAnswered Usage = ⊤
IsAnswered RuleFault = ⊤
IsAnswered NotFit = ⊤
IsAnswered TooLong = ⊤
IsAnswered ReadFault = ⊥
IsAnswered WriteFault = ⊥
IsAnswered Memory = ⊥

-- the status with which the program ends after it prints a reply
abbrev pub reply_status : Reply → Status
reply_status (Reply.Found f) = Done
reply_status (Reply.NotFit u) = NotFit
reply_status (Reply.RuleFault i f) = RuleFault
reply_status (Reply.Accepted v) = Done
reply_status (Reply.Refused f) = Refused
reply_status Reply.TooLong = TooLong
reply_status Reply.Usage = Usage
