use Rattle.std.proofs.Common.{arith, length-set}
use Rattle.image_subsets.proofs.MarkSpreads.{IsSpreadTo-row}
use Rattle.image_subsets.proofs.rows.spread_from.Goals as goal

pub loop-i-preserved : goal.loop-i-preserved
loop-i-preserved c =
    grind (arith, length-set, IsSpreadTo-row)
