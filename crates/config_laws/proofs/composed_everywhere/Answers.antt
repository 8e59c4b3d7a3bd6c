use Rattle.config_laws.proofs.Composed.{IsSurjective-after, IsInjective-after, IsRightClosing-after, IsLeftClosing-after, IsOpen-after, IsOneAfter-words}
use Rattle.config_laws.proofs.RingImages.{ring_image-after, IsConserving-after}
use Rattle.config_laws.proofs.composed_everywhere.Goals as goal

pub returns-clause-surjective : goal.returns-clause-surjective
returns-clause-surjective c r s t first second both after = IsSurjective-after first second both after

pub returns-clause-injective : goal.returns-clause-injective
returns-clause-injective c r s t first second both after = IsInjective-after first second both after

pub returns-clause-right : goal.returns-clause-right
returns-clause-right c r s t first second both after = IsRightClosing-after first second both after

pub returns-clause-left : goal.returns-clause-left
returns-clause-left c r s t first second both after = IsLeftClosing-after first second both after

pub returns-clause-open_ : goal.returns-clause-open_
returns-clause-open_ c r s t first second both after = IsOpen-after first second both after

pub returns-clause-conserving : goal.returns-clause-conserving
returns-clause-conserving c weight r s t first second both after = IsConserving-after first after weight

pub returns-clause-words : goal.returns-clause-words
returns-clause-words c r s t first second both = IsOneAfter-words first second both

pub returns-clause-rings : goal.returns-clause-rings
returns-clause-rings c r s t p after ring = ring_image-after after p ring
