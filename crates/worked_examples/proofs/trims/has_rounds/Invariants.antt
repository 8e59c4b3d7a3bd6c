use Rattle.std.proofs.Common.{◌≡◌, length}
use Rattle.word_image.proofs.Common.{pair_count}
use Rattle.worked_examples.proofs.trims.has_rounds.Given as goal

-- the set is one of the rule's pairs
abbrev pub invariant-loop-want : goal.invariant-loop-want
invariant-loop-want g l = length l.set ≡ pair_count l.pairs
