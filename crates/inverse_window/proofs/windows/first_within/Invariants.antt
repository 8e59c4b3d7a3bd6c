use Rattle.std.proofs.Common.{◌+◌}
use Rattle.inverse_window.proofs.FirstSearches.{IsSearched}
use Rattle.inverse_window.proofs.windows.first_within.Given as goal

abbrev pub invariant-loop-c : goal.invariant-loop-c
invariant-loop-c l = IsSearched l.rule l.past (l.c + 1) l.start l.first
