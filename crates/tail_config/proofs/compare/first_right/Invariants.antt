use Rattle.std.proofs.Common.{◌≡◌, ℕ, ◌<◌, ◌≤◌, pos}
use Rattle.tail_config.specs.Tails.{cell}
use Rattle.tail_config.proofs.compare.first_right.Given as goal

-- the cells from the start on have been equal
abbrev pub invariant-loop-i : goal.invariant-loop-i
invariant-loop-i l = (j : ℕ) → l.start ≤ j → j < l.i → cell l.a.config (pos j) ≡ cell l.b.config (pos j)
