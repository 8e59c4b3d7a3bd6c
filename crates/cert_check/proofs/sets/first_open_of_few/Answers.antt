use Rattle.std.proofs.Common.{slice_index, below_more}
use Rattle.cert_conditions.proofs.Common.{EachBelow, StepIsKept}
use Rattle.cert_check.proofs.sets.first_open_of_few.Goals as goal

pub loop-place-preserved : goal.loop-place-preserved
loop-place-preserved c =
    below_more (λ i. EachBelow c.args.rule.now.states (StepIsKept c.args.version c.args.rule.now c.args.sets.now (slice_index c.args.sets.now i))) c.loop-place.place c.loop-place.invariant
    c.in_default.ensures
