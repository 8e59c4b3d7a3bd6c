use Rattle.config_laws.proofs.OntoRings.{IsSurjective-rings, ring_over, IsSurjective-periodic}
use Rattle.config_laws.proofs.surjective_on_rings.Goals as goal

pub returns-clause-exactly : goal.returns-clause-exactly
returns-clause-exactly c r rule = IsSurjective-rings rule

pub returns-clause-few : goal.returns-clause-few
returns-clause-few c r q rule every ring = ring_over rule every ring

pub returns-clause-periodic : goal.returns-clause-periodic
returns-clause-periodic c r rule = IsSurjective-periodic rule
