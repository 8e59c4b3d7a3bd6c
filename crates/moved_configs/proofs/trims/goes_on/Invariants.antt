use Rattle.std.proofs.Common.{ℕ, ◌<◌}
use Rattle.moved_configs.specs.Trims.{Goes}
use Rattle.moved_configs.proofs.trims.goes_on.Given as goal

-- none of the first letters goes on
abbrev pub invariant-loop-letter : goal.invariant-loop-letter
invariant-loop-letter l = (a : ℕ) → a < l.letter → ¬ Goes l.side l.rule l.place l.nodes l.node a
