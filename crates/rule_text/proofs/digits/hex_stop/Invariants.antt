use Rattle.std.proofs.Common.{take, All}
use Rattle.word_image.proofs.Common.{IsHexDigit}
use Rattle.rule_text.proofs.digits.hex_stop.Given as goal

-- the bytes so far are hexadecimal digits
abbrev pub invariant-loop-place : goal.invariant-loop-place
invariant-loop-place l = All IsHexDigit (take l.place l.digits)
