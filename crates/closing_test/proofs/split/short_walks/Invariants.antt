use Rattle.std.proofs.Common.{IfSome}
use Rattle.closing_test.proofs.SeenSplits.{IsSplit}
use Rattle.closing_test.proofs.split.short_walks.Given as goal

abbrev pub invariant-loop-i : goal.invariant-loop-i
invariant-loop-i l = IfSome l.best (IsSplit l.pairs)
