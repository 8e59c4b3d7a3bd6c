use Rattle.std.proofs.Common.{arith, length-set}
use Rattle.word_image.proofs.Common.{take_more_set}
use Rattle.word_image.proofs.laws.Lists.{letters_more}
use Rattle.word_image.proofs.laws.Rings.{IsWord-ring_letters}
use Rattle.word_image.proofs.rings.ring_apply.Goals as goal

pub loop-i-preserved : goal.loop-i-preserved
loop-i-preserved c = grind (arith, length-set, letters_more, take_more_set)

pub apply-requires-clause-word : goal.apply-requires-clause-word
apply-requires-clause-word c = grind (arith, IsWord-ring_letters)
