use Rattle.rule_algebra.proofs.laws.Trimming.{SameRows}
use Rattle.rule_algebra.proofs.trimming.ignores_first.Given as goal

-- the entries so far are those of the first row
abbrev pub invariant-loop-window : goal.invariant-loop-window
invariant-loop-window l = SameRows l.rule l.window
