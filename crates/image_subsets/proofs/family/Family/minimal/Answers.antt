use Rattle.std.proofs.Common.{arith}
use Rattle.image_subsets.proofs.Minimal.{is_minimal-marks}
use Rattle.image_subsets.proofs.family.Family.minimal.Goals as goal

pub returns : goal.returns
returns c = grind (arith, is_minimal-marks)
