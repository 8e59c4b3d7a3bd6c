use Rattle.config_laws.proofs.Inverses.{IsOpen-injective}
use Rattle.config_laws.proofs.Bijective.{IsInjective-bijective, has_inverse}
use Rattle.config_laws.proofs.injective_is_bijective.Goals as goal

pub returns-clause-open_ : goal.returns-clause-open_
returns-clause-open_ c r rule injective = IsOpen-injective r injective

pub returns-clause-exactly : goal.returns-clause-exactly
returns-clause-exactly c r rule = IsInjective-bijective rule

pub returns-clause-inverse : goal.returns-clause-inverse
returns-clause-inverse c r rule injective = has_inverse rule injective
