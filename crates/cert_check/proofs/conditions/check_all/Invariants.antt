use Rattle.std.proofs.Common.{take, All}
use Rattle.cert_conditions.proofs.Common.{conditions, Holds}
use Rattle.cert_check.proofs.conditions.check_all.Given as goal

-- the conditions so far are met
abbrev pub invariant-loop-condition : goal.invariant-loop-condition
invariant-loop-condition l = All (Holds l.cert) (take l.condition-index conditions)
