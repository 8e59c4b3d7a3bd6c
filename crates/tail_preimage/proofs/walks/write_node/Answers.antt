use Rattle.std.proofs.Common.{arith, take_all}
use Rattle.word_image.proofs.Common.{take_more, length-word_of}
use Rattle.tail_preimage.proofs.walks.write_node.Goals as goal

pub loop-place-preserved : goal.loop-place-preserved
loop-place-preserved c = grind (arith, length-word_of, take_more)

pub returns-clause-word : goal.returns-clause-word
returns-clause-word c = grind (arith, take_all, length-word_of)
