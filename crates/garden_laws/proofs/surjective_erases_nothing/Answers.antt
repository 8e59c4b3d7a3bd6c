use Rattle.garden_laws.proofs.GardenOfEden.{garden_of_eden}
use Rattle.garden_laws.proofs.surjective_erases_nothing.Goals as goal

pub returns : goal.returns
returns c r rule = garden_of_eden rule
