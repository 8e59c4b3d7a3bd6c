use Rattle.std.proofs.Common.{◌≡◌, length, take, pos}
use Rattle.word_image.specs.Rings.{ring_letters}
use Rattle.word_image.proofs.rings.ring_apply.Given as goal

-- the letters so far are those of the ring
abbrev pub invariant-loop-i : goal.invariant-loop-i
invariant-loop-i l = (length l.window ≡ 5) × (take l.i l.window ≡ ring_letters l.ring (pos l.first) l.i)
