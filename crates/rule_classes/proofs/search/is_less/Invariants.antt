use Rattle.std.proofs.Common.{◌*◌}
use Rattle.rule_classes.specs.Colourings.{AgreeFrom}
use Rattle.rule_classes.proofs.search.is_less.Given as goal

-- the tables agree from the windows of this node on
abbrev pub invariant-loop-node : goal.invariant-loop-node
invariant-loop-node l = AgreeFrom l.rule l.colouring 0 0 l.best.colouring (l.node * l.rule.states)
