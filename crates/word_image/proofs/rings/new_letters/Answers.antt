use Rattle.std.proofs.Common.{arith}
use Rattle.word_image.proofs.laws.Lists.{letters_more}
use Rattle.word_image.proofs.laws.Rings.{ring_letters-rem}
use Rattle.word_image.proofs.rings.new_letters.Goals as goal

pub loop-place-preserved : goal.loop-place-preserved
loop-place-preserved c = grind (arith, ring_letters-rem, letters_more)
