use Rattle.std.proofs.Common.{arith}
use Rattle.image_subsets.proofs.MaskLists.{AreMembers-none}
use Rattle.image_subsets.proofs.masks.Masks.new.Goals as goal

pub invariant_of-result : goal.invariant_of-result
invariant_of-result c = grind (arith, AreMembers-none)
