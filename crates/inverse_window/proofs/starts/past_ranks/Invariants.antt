use Rattle.std.proofs.Common.{◌≤◌}
use Rattle.inverse_window.specs.FirstWindows.{IsPast}
use Rattle.inverse_window.proofs.starts.past_ranks.Given as goal

abbrev pub invariant-loop-u : goal.invariant-loop-u
invariant-loop-u l = record {
  past : IsPast l.ranks l.u l.past;
  most : l.past ≤ 120;
}
