use Rattle.std.proofs.Common.{◌≤◌}
use Rattle.inverse_window.specs.FirstWindows.{IsPastOf}
use Rattle.inverse_window.proofs.starts.past_ranks_of.Given as goal

abbrev pub invariant-loop-v : goal.invariant-loop-v
invariant-loop-v l = record {
  past : IsPastOf l.ranks l.u l.v l.past;
  least : l.fn.least ≤ l.past;
  most : l.past ≤ 120;
}
