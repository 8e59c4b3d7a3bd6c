use Rattle.std.proofs.Common.{take}
use Rattle.cert_format.specs.Readings.{IsLetters}
use Rattle.cert_format.proofs.words.letters.Given as goal

-- the letters of the digits so far
abbrev pub invariant-loop-digit : goal.invariant-loop-digit
invariant-loop-digit l = IsLetters l.k (take l.digit-index l.digits) l.word.items
