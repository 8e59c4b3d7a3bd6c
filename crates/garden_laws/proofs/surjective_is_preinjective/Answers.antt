use Rattle.garden_laws.proofs.Preinjective.{IsSurjective-preinjective}
use Rattle.garden_laws.proofs.surjective_is_preinjective.Goals as goal

pub returns : goal.returns
returns c r rule = IsSurjective-preinjective rule
