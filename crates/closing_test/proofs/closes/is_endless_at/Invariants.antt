use Rattle.std.proofs.Common.{ℕ, ◌<◌}
use Rattle.closing_test.specs.EndlessFirsts.{IsEndlessWith}
use Rattle.closing_test.proofs.closes.is_endless_at.Given as goal

-- the ends are endless with none of the first letters
abbrev pub invariant-loop-letter : goal.invariant-loop-letter
invariant-loop-letter l = (a : ℕ) → a < l.letter → ¬ IsEndlessWith l.side l.endless l.window a
