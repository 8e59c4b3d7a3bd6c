use Rattle.garden_laws.proofs.ReachedPairs.{IsSurjective-reached, IsSurjective-pair_list}
use Rattle.garden_laws.proofs.surjective_reaches_no_equal_nodes.Goals as goal

pub returns-clause-reached : goal.returns-clause-reached
returns-clause-reached c r rule = IsSurjective-reached rule

pub returns-clause-list : goal.returns-clause-list
returns-clause-list c r pairs rule = IsSurjective-pair_list rule
