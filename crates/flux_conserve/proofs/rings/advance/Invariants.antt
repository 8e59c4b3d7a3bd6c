use Rattle.std.proofs.Common.{◌≡◌, ◌+◌, ◌-◌, ◌^◌, ◌≤◌, length}
use Rattle.word_image.proofs.Common.{IsWord, value}
use Rattle.flux_conserve.proofs.rings.advance.Given as goal

-- a step at the place is still to be carried
abbrev pub invariant-loop-place : goal.invariant-loop-place
invariant-loop-place l = IsWord l.k l.word × (length l.word ≡ length l.fn.word) × (l.place ≤ length l.word)
    × (value l.k l.word + l.k ^ (length l.word - l.place) ≡ value l.k l.fn.word + 1)

abbrev pub decreases-loop-place : goal.decreases-loop-place
decreases-loop-place l = l.place
