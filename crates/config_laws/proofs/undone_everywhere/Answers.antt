use Rattle.config_laws.proofs.Composed.{IsUndoneBy-turned, IsInjective-undone, IsUndoneBy-words}
use Rattle.config_laws.proofs.RingImages.{ring_image-undone, IsConserving-undone}
use Rattle.config_laws.proofs.undone_everywhere.Goals as goal

pub returns-clause-turned : goal.returns-clause-turned
returns-clause-turned c r s rule u = IsUndoneBy-turned rule u

pub returns-clause-injective : goal.returns-clause-injective
returns-clause-injective c r s rule u = IsInjective-undone rule u

pub returns-clause-conserving : goal.returns-clause-conserving
returns-clause-conserving c weight r s first second u = (IsConserving-undone second (IsUndoneBy-turned first u) weight, IsConserving-undone first u weight)

pub returns-clause-rings : goal.returns-clause-rings
returns-clause-rings c r s p u ring = ring_image-undone u p ring

pub returns-clause-words : goal.returns-clause-words
returns-clause-words c r s first second others words = IsUndoneBy-words first second others words
