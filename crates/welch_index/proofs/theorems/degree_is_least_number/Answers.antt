use Rattle.welch_index.proofs.Tails.{HasSeparated-tails}
use Rattle.welch_index.proofs.Exact.{exact_configuration}
use Rattle.welch_index.proofs.theorems.degree_is_least_number.Goals as goal

pub returns-clause-least : goal.returns-clause-least
returns-clause-least _ r d y i rule degree config tails = HasSeparated-tails rule degree config tails i

pub returns-clause-attained : goal.returns-clause-attained
returns-clause-attained _ r d rule onto degree = exact_configuration rule onto degree
