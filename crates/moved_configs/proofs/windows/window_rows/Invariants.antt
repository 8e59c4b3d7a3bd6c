use Rattle.std.proofs.Common.{◌≡◌, ℕ, ◌<◌, ◌≤◌, length, slice_index}
use Rattle.word_image.proofs.Common.{IsSetOf}
use Rattle.moved_configs.specs.Trims.{Stays}
use Rattle.moved_configs.proofs.windows.window_rows.Given as goal

-- the first nodes are done, and the other rows are empty
abbrev pub invariant-loop-node : goal.invariant-loop-node
invariant-loop-node l = record {
  long : length l.rows ≡ 16;
  done : (u : ℕ) → u < l.node → IsSetOf l.rule.states (Stays l.rule l.place l.nodes u) (slice_index l.rows u);
  rest : (u : ℕ) → l.node ≤ u → slice_index l.rows u ≡ 0;
}
