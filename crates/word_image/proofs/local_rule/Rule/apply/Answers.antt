use Rattle.std.proofs.Common.{arith}
use Rattle.word_image.proofs.laws.Values.{value-below}
use Rattle.word_image.proofs.local_rule.Rule.apply.Goals as goal

pub at-requires : goal.at-requires
at-requires c = grind (arith, value-below)
