use Rattle.std.proofs.Common.{arith}
use Rattle.tail_preimage.proofs.laws.Lengths.{length-repeat-most}
use Rattle.tail_preimage.proofs.walks.WalkRoom.set_copies.Goals as goal

pub invariant_of-self : goal.invariant_of-self
invariant_of-self c = grind (arith, length-repeat-most)
