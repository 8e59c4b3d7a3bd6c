use Rattle.cert_conditions.proofs.Common.{EachBelow, StepIsKept}
use Rattle.cert_check.proofs.sets.first_outside.Given as goal

-- the steps so far are as they should be
abbrev pub invariant-loop-letter : goal.invariant-loop-letter
invariant-loop-letter l = EachBelow l.letter (StepIsKept l.fn.version l.rule l.sets l.set)
