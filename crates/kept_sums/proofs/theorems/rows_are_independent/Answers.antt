use Rattle.kept_sums.proofs.laws.Independence.{rows-independent, row_or_ring}
use Rattle.kept_sums.proofs.theorems.rows_are_independent.Goals as goal

pub returns-clause-rows : goal.returns-clause-rows
returns-clause-rows c = λ r range rows counts rings parts rule some few are trivial i l free none. rows-independent rule few are.stage some parts trivial i l free none

pub returns-clause-count : goal.returns-clause-count
returns-clause-count c = λ r range rows counts rings rule few are. row_or_ring rule few are.stage
