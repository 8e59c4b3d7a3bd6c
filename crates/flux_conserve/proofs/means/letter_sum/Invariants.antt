use Rattle.std.proofs.Common.{◌≡◌, ◌*◌, ◌≤◌, sum, take}
use Rattle.flux_conserve.proofs.means.letter_sum.Given as goal

-- the sum of the letters so far
abbrev pub invariant-loop-letter : goal.invariant-loop-letter
invariant-loop-letter l = (l.sum ≡ sum (take l.letter-index l.letters)) × (l.sum ≤ 255 * l.letter-index)
