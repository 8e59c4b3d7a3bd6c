use Rattle.std.proofs.Common.{arith}
use Rattle.rule_lists.proofs.FixedCycles.{walk-after, IsFixedCycle-closed}
use Rattle.rule_lists.proofs.walks.is_cycle.Goals as goal

pub loop-preserved : goal.loop-preserved
loop-preserved c = grind (arith, walk-after)

pub returns-then-next-pair : goal.returns-then-next-pair
returns-then-next-pair c told = grind (arith, IsFixedCycle-closed)
