use Rattle.std.proofs.Common.{arith}
use Rattle.tail_config.proofs.laws.Decisions.{AgreeLeft-from_left}
use Rattle.tail_config.proofs.compare.agree_left.Goals as goal

pub returns : goal.returns
returns c = grind (arith, AgreeLeft-from_left)
