use Rattle.word_image.proofs.Common.{IsSetTo}
use Rattle.moved_configs.specs.Trims.{Stays}
use Rattle.moved_configs.proofs.windows.letters_from.Given as goal

-- the first letters are done
abbrev pub invariant-loop-letter : goal.invariant-loop-letter
invariant-loop-letter l = IsSetTo l.rule.states (Stays l.rule l.place l.nodes l.node) l.letter l.letters
