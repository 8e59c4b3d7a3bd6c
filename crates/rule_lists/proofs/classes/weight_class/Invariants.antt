use Rattle.std.proofs.Common.{◌≡◌, ◌≤◌}
use Rattle.rule_lists.specs.Orders.{greatest_letter, letters_not_0}
use Rattle.rule_lists.proofs.classes.weight_class.Given as goal

-- the last letters
abbrev pub invariant-loop-behind : goal.invariant-loop-behind
invariant-loop-behind l = record {
  greatest : l.greatest ≡ greatest_letter l.shape.states l.behind l.window;
  some : l.some ≡ letters_not_0 l.shape.states l.behind l.window;
  letter : l.greatest ≤ 16;
  few : l.some ≤ l.behind;
}
