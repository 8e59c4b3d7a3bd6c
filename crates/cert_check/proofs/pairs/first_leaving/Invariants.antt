use Rattle.std.proofs.Common.{ℕ, slice_index}
use Rattle.cert_conditions.proofs.Common.{EachBelow, StepsAreListed}
use Rattle.cert_check.specs.Rows.{IsMarked}
use Rattle.cert_check.proofs.pairs.first_leaving.Given as goal

-- all steps of the pairs so far are listed, and those of each pair that is marked
abbrev pub invariant-loop-place : goal.invariant-loop-place
invariant-loop-place l = record {
  so_far : EachBelow l.place (λ i. StepsAreListed l.rule l.pairs (slice_index l.pairs i));
  marked : (p : ℕ) → IsMarked l.closed.rows p → StepsAreListed l.rule l.pairs p;
}
