use Rattle.std.proofs.Common.{◌≡◌, ℕ, ◌<◌, negsuc}
use Rattle.tail_config.specs.Tails.{cell}
use Rattle.tail_config.proofs.compare.first_left.Given as goal

-- the cells from place -1 on to the left have been equal
abbrev pub invariant-loop-i : goal.invariant-loop-i
invariant-loop-i l = (j : ℕ) → j < l.i → cell l.a.config (negsuc j) ≡ cell l.b.config (negsuc j)
