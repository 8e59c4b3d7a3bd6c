use Rattle.std.proofs.Common.{arith}
use Rattle.inverse_table.proofs.WordCounts.{power-most}
use Rattle.inverse_table.proofs.table_room.place_of.Goals as goal

pub pow-requires : goal.pow-requires
pow-requires c = grind (arith, power-most)

pub invariant_of-result : goal.invariant_of-result
invariant_of-result c = grind (arith, power-most)
