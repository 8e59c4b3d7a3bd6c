use Rattle.rule_algebra.specs.Tables.{AreOldLetters}
use Rattle.rule_algebra.proofs.recolouring.old_letters.Given as goal

-- the letters so far stand at their colours
abbrev pub invariant-loop-letter : goal.invariant-loop-letter
invariant-loop-letter l = AreOldLetters l.k l.colours l.letter l.letters
