use Rattle.garden_laws.proofs.Preinjective.{IsSurjective-left_closing}
use Rattle.closing_test.proofs.look_ahead.ahead_left.Goals as goal

pub returns-clause-surjective : goal.returns-clause-surjective
returns-clause-surjective c some = IsSurjective-left_closing c.least_ahead.ensures.rule (c.least_ahead.ensures.closing.0 some)
