use Rattle.std.proofs.Common.{arith}
use Rattle.tail_config.proofs.laws.Decisions.{AgreeRight-from_right}
use Rattle.tail_config.proofs.compare.agree_right.Goals as goal

pub returns : goal.returns
returns c = grind (arith, AgreeRight-from_right)
