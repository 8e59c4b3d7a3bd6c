use Rattle.std.proofs.Common.{◌≡◌, ℕ, ◌<◌, get_or, pos, ◌+ℤ◌}
use Rattle.tail_config.specs.Tails.{cell}
use Rattle.c_structs.proofs.images.TailParts.write_cells.Given as goal

-- the letters so far are the cells from the start on
abbrev pub invariant-loop-j : goal.invariant-loop-j
invariant-loop-j l = (a : ℕ) → a < l.j → get_or l.row a 0 ≡ cell l.self (l.start +ℤ pos a)
