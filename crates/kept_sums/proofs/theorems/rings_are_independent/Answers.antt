use Rattle.kept_sums.proofs.laws.Independence.{rings-independent, ring-needed}
use Rattle.kept_sums.proofs.theorems.rings_are_independent.Goals as goal

pub returns-clause-rings : goal.returns-clause-rings
returns-clause-rings c = λ r range rows counts rings parts rule few are vanish i l some. rings-independent rule few are.stage parts vanish i l some

pub returns-clause-needed : goal.returns-clause-needed
returns-clause-needed c = λ r range rows counts rings rule few are i l some. ring-needed rule few are.stage i l some
