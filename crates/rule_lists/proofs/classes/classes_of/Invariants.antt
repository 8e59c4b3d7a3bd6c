use Rattle.std.proofs.Common.{◌≡◌, ◌<◌, ℕ, length, slice_index}
use Rattle.rule_lists.specs.Orders.{class_of}
use Rattle.rule_lists.proofs.classes.classes_of.Given as goal

-- the first windows have their classes
abbrev pub invariant-loop-window : goal.invariant-loop-window
invariant-loop-window l = record {
  long : length l.classes ≡ 256;
  classes : (w : ℕ) → w < l.window → slice_index l.classes w ≡ class_of l.property l.shape.states l.shape.width w;
}
