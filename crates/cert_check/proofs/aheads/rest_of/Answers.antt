use Rattle.std.proofs.Common.{arith}
use Rattle.word_image.proofs.Common.{power-below}
use Rattle.cert_check.proofs.aheads.rest_of.Goals as goal

pub pow-requires : goal.pow-requires
pow-requires c = grind (arith, power-below)

pub nonzero_rem-result : goal.nonzero_rem-result
nonzero_rem-result c = grind (arith, power-below)
