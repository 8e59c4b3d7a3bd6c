use Rattle.std.proofs.Common.{◌+◌, ◌*◌}
use Rattle.rule_classes.specs.Tables.{AreFilled}
use Rattle.rule_classes.proofs.colourings.Colouring.fill_row.Given as goal

-- the windows so far are filled
abbrev pub invariant-loop-letter : goal.invariant-loop-letter
invariant-loop-letter l = AreFilled l.rule l.self (l.node * l.rule.states + l.letter) l.windows l.entries
