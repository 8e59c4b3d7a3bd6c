use Rattle.std.proofs.Common.{◌≡◌, ◌++◌, map, take}
use Rattle.std.specs.Prelude.{vec_capacity}
use Rattle.word_image.specs.Digits.{letter_at}
use Rattle.tail_config.proofs.tail_room.append_digits.Given as goal

-- the letters so far, and room for the others
abbrev pub invariant-loop-byte : goal.invariant-loop-byte
invariant-loop-byte l = (l.list.items ≡ l.fn.list.items ++ map letter_at (take l.byte-index l.digits)) × (vec_capacity l.list ≡ vec_capacity l.fn.list)
