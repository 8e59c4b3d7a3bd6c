use Rattle.std.proofs.Common.{◌≡◌, ◌-◌}
use Rattle.rule_lists.specs.Orders.{period_from}
use Rattle.rule_lists.proofs.classes.ring_class.Given as goal

-- no lesser number of letters is a period
abbrev pub invariant-loop-length : goal.invariant-loop-length
invariant-loop-length l = period_from l.shape.states l.shape.width l.window l.length (l.shape.width - l.length) ≡ period_from l.shape.states l.shape.width l.window 1 (l.shape.width - 1)
