use Rattle.std.proofs.Common.{arith}
use Rattle.word_image.proofs.laws.RuleFaults.{power-few}
use Rattle.word_image.proofs.local_rule.check_shape.Goals as goal

pub pow-requires : goal.pow-requires
pow-requires c = grind (arith, power-few)
