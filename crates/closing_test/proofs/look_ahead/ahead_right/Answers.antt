use Rattle.garden_laws.proofs.Preinjective.{IsSurjective-right_closing}
use Rattle.closing_test.proofs.look_ahead.ahead_right.Goals as goal

pub returns-clause-surjective : goal.returns-clause-surjective
returns-clause-surjective c some = IsSurjective-right_closing c.least_ahead.ensures.rule (c.least_ahead.ensures.closing.0 some)
