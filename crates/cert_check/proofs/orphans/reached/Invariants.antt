use Rattle.std.proofs.Common.{take}
use Rattle.word_image.proofs.Common.{full_set}
use Rattle.cert_conditions.proofs.Common.{LeadsTo}
use Rattle.cert_check.proofs.orphans.reached.Given as goal

-- the letters so far are read
abbrev pub invariant-loop-letter : goal.invariant-loop-letter
invariant-loop-letter l = LeadsTo l.rule (full_set l.rule) (take l.letter-index l.word) l.set
