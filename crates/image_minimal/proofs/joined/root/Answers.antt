use Rattle.image_minimal.proofs.Common.{arith}
use Rattle.image_minimal.proofs.Joins.{IsOnWay-next}
use Rattle.image_minimal.proofs.joined.root.Goals as goal

pub loop-parents-preserved : goal.loop-parents-preserved
loop-parents-preserved c = IsOnWay-next c.loop-parents.invariant c.requires.number (λ root. omega arith)
