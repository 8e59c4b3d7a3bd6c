use Rattle.closing_test.proofs.SeenSplits.{IsLeastSeen}
use Rattle.closing_test.proofs.split.least_walks.Given as goal

abbrev pub invariant-loop-i : goal.invariant-loop-i
invariant-loop-i l = IsLeastSeen l.pairs l.middles.reached l.i l.best
