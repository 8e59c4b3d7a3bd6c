use Rattle.std.proofs.Common.{◌*◌}
use Rattle.rule_lists.specs.Forests.{AreKnown, AreUpTo}
use Rattle.rule_lists.proofs.forests.forest_of.Given as goal

-- the windows so far are joined
abbrev pub invariant-loop-window : goal.invariant-loop-window
invariant-loop-window l = record {
  known : AreKnown l.shape l.letters l.forest.trees l.forest.levels;
  small : AreUpTo (l.window * 1048576) l.forest.levels;
}
