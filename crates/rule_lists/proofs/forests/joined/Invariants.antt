use Rattle.std.proofs.Common.{◌≡◌, ℕ, ◌<◌, length, slice_index}
use Rattle.rule_lists.specs.Forests.{IsMoved}
use Rattle.rule_lists.proofs.forests.joined.Given as goal

-- the nodes so far have moved
abbrev pub invariant-loop-node : goal.invariant-loop-node
invariant-loop-node l = record {
  trees : length l.trees ≡ 16;
  levels : length l.levels ≡ 16;
  moved : (v : ℕ) → v < l.node
      → IsMoved l.kept l.rise l.gone l.other (slice_index l.forest.trees v) (slice_index l.forest.levels v) (slice_index l.trees v) (slice_index l.levels v);
}
