use Rattle.std.proofs.Common.{◌≡◌, take}
use Rattle.word_image.specs.Digits.{word_text}
use Rattle.word_image.proofs.letters.word_text.Given as goal

-- the digits so far
abbrev pub invariant-loop-letter : goal.invariant-loop-letter
invariant-loop-letter l = l.text.items ≡ word_text (take l.letter-index l.word)
