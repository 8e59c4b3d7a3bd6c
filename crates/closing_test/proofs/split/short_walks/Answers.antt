use Rattle.std.proofs.Common.{arith}
use Rattle.closing_test.proofs.SeenSplits.{IsSplit-earlier, reached-below}
use Rattle.closing_test.proofs.split.short_walks.Goals as goal
use Rattle.closing_test.proofs.split.short_walks.Goals.{then-is_loop+in-Some, else-is_loop}

pub is_loop-requires : goal.is_loop-requires
is_loop-requires c = reached-below c.args.middles.now c.loop-i.i c.requires c.len-i-end.ensures.below (omega arith) c.pair-state.ensures

pub earlier-requires-clause-state : goal.earlier-requires-clause-state
earlier-requires-clause-state c = reached-below c.args.middles.now c.loop-i.i c.requires c.len-i-end.ensures.below (omega arith) c.pair-state.ensures

pub loop-i-preserved : goal.loop-i-preserved
loop-i-preserved c =
    elim c.if-is_loop.branch [
      | then-is_loop+in-Some w ↦ rw w.best-is (IsSplit-earlier c.loop-i.best w.in-Some.found c.is_loop.ensures w.in-Some.ensures)
      | else-is_loop w ↦ rw w.best-is c.loop-i.invariant
    ]
