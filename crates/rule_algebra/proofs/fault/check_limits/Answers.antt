use Rattle.std.proofs.Common.{arith}
use Rattle.word_image.proofs.Common.{power-few}
use Rattle.rule_algebra.proofs.fault.check_limits.Goals as goal

pub pow-requires : goal.pow-requires
pow-requires c = grind (arith, power-few)
