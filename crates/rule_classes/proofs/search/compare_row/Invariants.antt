use Rattle.std.proofs.Common.{◌+◌, ◌*◌}
use Rattle.rule_classes.specs.Colourings.{AgreeFrom}
use Rattle.rule_classes.proofs.search.compare_row.Given as goal

-- the tables agree from here on
abbrev pub invariant-loop-letter : goal.invariant-loop-letter
invariant-loop-letter l = AgreeFrom l.rule l.colouring l.low l.high l.best.colouring (l.node * l.rule.states + l.letter)
