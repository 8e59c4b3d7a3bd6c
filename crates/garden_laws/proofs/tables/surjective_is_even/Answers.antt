use Rattle.garden_laws.proofs.EvenTables.{IsEven-surjective}
use Rattle.garden_laws.proofs.ZeroPairs.{zero_pairs-surjective}
use Rattle.garden_laws.proofs.tables.surjective_is_even.Goals as goal

pub returns-clause-table : goal.returns-clause-table
returns-clause-table c r rule = IsEven-surjective rule

pub returns-clause-zeros : goal.returns-clause-zeros
returns-clause-zeros c r rule = zero_pairs-surjective rule
