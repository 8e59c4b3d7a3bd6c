use Rattle.std.proofs.Common.{◌≡◌, ◌≤◌}
use Rattle.rule_lists.specs.Orders.{least_turned}
use Rattle.rule_lists.proofs.classes.ring_number.Given as goal

-- the least number from the first letters on
abbrev pub invariant-loop-from : goal.invariant-loop-from
invariant-loop-from l = record {
  least : l.least ≡ least_turned l.shape.states l.length l.ring l.from;
  small : l.least ≤ 65535;
}
