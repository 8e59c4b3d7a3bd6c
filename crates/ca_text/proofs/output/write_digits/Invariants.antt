use Rattle.std.proofs.Common.{◌≡◌, ◌++◌, ◌+◌, take}
use Rattle.std.specs.Prelude.{vec_len, vec_capacity}
use Rattle.word_image.specs.Digits.{word_text}
use Rattle.ca_text.proofs.output.write_digits.Given as goal

-- the digits so far, and room for the others
abbrev pub invariant-loop-letter : goal.invariant-loop-letter
invariant-loop-letter l = (l.bytes.items ≡ l.fn.bytes.items ++ word_text (take l.letter-index l.word)) × (vec_len l.bytes ≡ vec_len l.fn.bytes + l.letter-index)
    × (vec_capacity l.bytes ≡ vec_capacity l.fn.bytes)
