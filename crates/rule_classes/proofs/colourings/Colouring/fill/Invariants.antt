use Rattle.std.proofs.Common.{◌*◌}
use Rattle.rule_classes.specs.Tables.{AreFilled}
use Rattle.rule_classes.proofs.colourings.Colouring.fill.Given as goal

-- the windows of the nodes so far are filled
abbrev pub invariant-loop-node : goal.invariant-loop-node
invariant-loop-node l = AreFilled l.rule l.self (l.node * l.rule.states) l.windows l.entries
