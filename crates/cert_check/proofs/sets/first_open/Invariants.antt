use Rattle.std.proofs.Common.{ℕ, slice_index}
use Rattle.cert_conditions.proofs.Common.{EachBelow, StepIsKept}
use Rattle.cert_check.specs.Rows.{IsMarked}
use Rattle.cert_check.proofs.sets.first_open.Given as goal

-- all steps of the sets so far are listed, and those of each set that is marked
abbrev pub invariant-loop-place : goal.invariant-loop-place
invariant-loop-place l = record {
  so_far : EachBelow l.place (λ i. EachBelow l.rule.states (StepIsKept l.fn.version l.rule l.sets (slice_index l.sets i)));
  marked : (s : ℕ) → IsMarked l.closed.rows s → EachBelow l.rule.states (StepIsKept l.fn.version l.rule l.sets s);
}
