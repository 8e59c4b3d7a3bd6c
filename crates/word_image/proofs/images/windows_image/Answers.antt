use Rattle.std.proofs.Common.{arith}
use Rattle.word_image.proofs.laws.Lists.{letters_more}
use Rattle.word_image.proofs.images.windows_image.Goals as goal

pub loop-start-preserved : goal.loop-start-preserved
loop-start-preserved c = grind (arith, letters_more)
