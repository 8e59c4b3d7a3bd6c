use Rattle.std.proofs.Common.{◌≡◌, take, map}
use Rattle.word_image.proofs.Common.{letter_at}
use Rattle.rule_text.proofs.digits.write_letters.Given as goal

-- the letters so far
abbrev pub invariant-loop-place : goal.invariant-loop-place
invariant-loop-place l = take l.place l.table ≡ map letter_at (take l.place l.digits)
