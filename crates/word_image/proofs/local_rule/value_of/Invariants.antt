use Rattle.std.proofs.Common.{◌≡◌, take}
use Rattle.word_image.specs.LocalRules.{value}
use Rattle.word_image.proofs.local_rule.value_of.Given as goal

-- the value of the letters so far
abbrev pub invariant-loop-letter : goal.invariant-loop-letter
invariant-loop-letter l = l.value ≡ value l.k (take l.letter-index l.window)
