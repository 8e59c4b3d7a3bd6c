use Rattle.config_laws.proofs.RingMaps.{IsInjective-rings}
use Rattle.config_laws.proofs.injective_on_rings.Goals as goal

pub returns : goal.returns
returns c r rule = IsInjective-rings rule
