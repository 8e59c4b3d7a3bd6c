use Rattle.std.proofs.Common.{◌≡◌, ℕ, ◌<◌, ◌≤◌, length, slice_index}
use Rattle.pair_graph.proofs.pair_set.PairSet.all.Given as goal

-- the first rows are filled
abbrev pub invariant-loop-u : goal.invariant-loop-u
invariant-loop-u l = record {
  long : length l.rows ≡ 16;
  full : (u : ℕ) → u < l.u → slice_index l.rows u ≡ l.row;
  past : (u : ℕ) → l.u ≤ u → slice_index l.rows u ≡ 0;
}
