use Rattle.std.proofs.Common.{arith}
use Rattle.kept_sums.proofs.laws.AfterRings.{IsRing-ring_image}
use Rattle.kept_sums.proofs.theorems.made_rules_keep_sums.Goals as goal

pub returns-clause-after : goal.returns-clause-after
returns-clause-after c = grind (arith, IsRing-ring_image)

pub returns-clause-undone : goal.returns-clause-undone
returns-clause-undone c = grind (arith, IsRing-ring_image)
