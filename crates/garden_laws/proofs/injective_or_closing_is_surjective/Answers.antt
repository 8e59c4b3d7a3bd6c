use Rattle.garden_laws.proofs.Preinjective.{IsSurjective-injective, IsSurjective-right_closing, IsSurjective-left_closing}
use Rattle.garden_laws.proofs.injective_or_closing_is_surjective.Goals as goal

pub returns-clause-injective : goal.returns-clause-injective
returns-clause-injective c r rule = IsSurjective-injective rule

pub returns-clause-right : goal.returns-clause-right
returns-clause-right c r rule = IsSurjective-right_closing rule

pub returns-clause-left : goal.returns-clause-left
returns-clause-left c r rule = IsSurjective-left_closing rule
