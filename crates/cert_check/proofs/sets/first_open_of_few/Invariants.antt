use Rattle.std.proofs.Common.{slice_index}
use Rattle.cert_conditions.proofs.Common.{EachBelow, StepIsKept}
use Rattle.cert_check.proofs.sets.first_open_of_few.Given as goal

-- all steps of the sets so far are as they should be
abbrev pub invariant-loop-place : goal.invariant-loop-place
invariant-loop-place l = EachBelow l.place (λ i. EachBelow l.rule.states (StepIsKept l.fn.version l.rule l.sets (slice_index l.sets i)))
