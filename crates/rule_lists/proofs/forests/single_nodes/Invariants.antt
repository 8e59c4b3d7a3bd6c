use Rattle.std.proofs.Common.{◌≡◌, ℕ, ◌<◌, length, slice_index}
use Rattle.rule_lists.proofs.forests.single_nodes.Given as goal

-- the nodes so far have trees of their own
abbrev pub invariant-loop-node : goal.invariant-loop-node
invariant-loop-node l = record {
  long : length l.trees ≡ 16;
  trees : (v : ℕ) → v < l.node → slice_index l.trees v ≡ v;
}
