use Rattle.garden_laws.proofs.Balance.{IsSurjective-IsBalanced}
use Rattle.garden_laws.proofs.surjective_is_balanced.Goals as goal

pub returns : goal.returns
returns c r rule = IsSurjective-IsBalanced rule
