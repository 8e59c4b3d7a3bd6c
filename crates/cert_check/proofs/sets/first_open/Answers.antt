use Rattle.std.proofs.Common.{slice_index, ⊎_elim, arith, below_more}
use Rattle.cert_conditions.proofs.Common.{EachBelow, StepIsKept}
use Rattle.cert_check.proofs.sets.first_open.Goals as goal

pub loop-place-preserved-then-has : goal.loop-place-preserved-then-has
loop-place-preserved-then-has c =
    let r = c.args.rule.now in
    let inv = c.loop-place.invariant in
    record {
      so_far = below_more (λ i. EachBelow r.states (StepIsKept c.args.version r c.args.sets.now (slice_index c.args.sets.now i))) _ inv.so_far (inv.marked _ (c.has.ensures.0 c.if-has.true));
      marked = inv.marked;
    }

pub loop-place-preserved : goal.loop-place-preserved
loop-place-preserved c =
    let r = c.args.rule.now in
    let sets = c.args.sets.now in
    let inv = c.loop-place.invariant in
    let here = c.in_default.ensures c.args.version sets (rw c.all_nodes.ensures.set at c.kept-kept.ensures) in
    record {
      so_far = below_more (λ i. EachBelow r.states (StepIsKept c.args.version r sets (slice_index sets i))) c.loop-place.place inv.so_far here;
      marked = λ s some. ⊎_elim (λ same. rw same here) (λ old. inv.marked s old) ((c.mark.ensures s).0 some);
    }

pub returns-in-Some : goal.returns-in-Some
returns-in-Some c =
    let here = c.in-Some.ensures c.args.version c.args.sets.now (rw c.all_nodes.ensures.set at c.kept-kept.ensures) in (
      record { within = c.loop-place-test.true; fails = λ each. here.fails (each c.in-Some.letter here.within); earlier = c.loop-place.invariant.so_far },
      here,
    )

pub returns : goal.returns
returns c i within = c.loop-place.invariant.so_far i (omega arith)
