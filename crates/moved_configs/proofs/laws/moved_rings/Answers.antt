use Rattle.moved_configs.proofs.RingImages.{IsMovedBy-ring}
use Rattle.moved_configs.proofs.laws.moved_rings.Goals as goal

pub returns : goal.returns
returns c r s p ring = IsMovedBy-ring r s p ring
