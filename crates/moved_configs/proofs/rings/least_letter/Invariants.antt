use Rattle.std.proofs.Common.{ℕ, ◌<◌}
use Rattle.moved_configs.specs.MovedRings.{Leads}
use Rattle.moved_configs.proofs.rings.least_letter.Given as goal

-- no window leads on the first letters
abbrev pub invariant-loop-letter : goal.invariant-loop-letter
invariant-loop-letter l = (a : ℕ) → a < l.letter → ¬ Leads l.rule l.rows l.nodes l.node a
