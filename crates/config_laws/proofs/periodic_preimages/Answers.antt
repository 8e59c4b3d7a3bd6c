use Rattle.config_laws.proofs.PeriodicPreimages.{IsSurjective-periodic_preimages, HasPeriod-preimage}
use Rattle.config_laws.proofs.Periods.{HasPeriod-injective}
use Rattle.config_laws.proofs.periodic_preimages.Goals as goal

pub returns-clause-exactly : goal.returns-clause-exactly
returns-clause-exactly c r rule = IsSurjective-periodic_preimages rule

pub returns-clause-period : goal.returns-clause-period
returns-clause-period c r x p rule every hx period = HasPeriod-preimage rule every hx period

pub returns-clause-injective : goal.returns-clause-injective
returns-clause-injective c r x p rule injective hx period = HasPeriod-injective rule injective hx period
