use Rattle.rule_classes.proofs.laws.Readings.{IsReadSoFar}
use Rattle.rule_classes.proofs.colourings.Colouring.old_window.Given as goal

-- the last letters are read
abbrev pub invariant-loop : goal.invariant-loop
invariant-loop l = IsReadSoFar l.rule l.self l.window l.counter l.left l.power l.old
