use Rattle.std.proofs.Common.{◌≡◌, ℕ, ◌<◌, get_or, pos, ◌+ℤ◌}
use Rattle.tail_config.specs.Tails.{image_cell}
use Rattle.c_structs.proofs.images.TailParts.write_letters.Given as goal

-- the letters so far are those of the image from the first one on
abbrev pub invariant-loop-j : goal.invariant-loop-j
invariant-loop-j l = (a : ℕ) → a < l.j → get_or l.letters a 0 ≡ image_cell l.rule l.self (l.first +ℤ pos a)
