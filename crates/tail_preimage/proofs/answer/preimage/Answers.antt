use Rattle.std.proofs.Common.{arith}
use Rattle.word_image.proofs.Common.{IfOk-weaker}
use Rattle.tail_preimage.proofs.answer.preimage.Goals as goal

pub returns-clause-only : goal.returns-clause-only
returns-clause-only c = grind (arith, IfOk-weaker)

pub returns-clause-exactly : goal.returns-clause-exactly
returns-clause-exactly c = grind (arith, IfOk-weaker)
