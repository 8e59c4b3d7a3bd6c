use Rattle.std.proofs.Common.{arith}
use Rattle.rule_lists.proofs.laws.Orders.{period-here, period-further}
use Rattle.rule_lists.proofs.classes.ring_class.Goals as goal

pub returns-then-has_period : goal.returns-then-has_period
returns-then-has_period c = grind (arith, period-here)

pub loop-length-preserved : goal.loop-length-preserved
loop-length-preserved c = grind (arith, period-further)
