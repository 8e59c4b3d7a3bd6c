use Rattle.cert_conditions.proofs.laws.OneAnswer.{IsAccepted-unique, IsRefusal-unique, accepted_not_refused}
use Rattle.cert_conditions.proofs.theorems.one_answer.Goals as goal

pub returns-clause-accepted : goal.returns-clause-accepted
returns-clause-accepted c bytes v w = IsAccepted-unique

pub returns-clause-refused : goal.returns-clause-refused
returns-clause-refused c bytes f g = IsRefusal-unique

pub returns-clause-never_both : goal.returns-clause-never_both
returns-clause-never_both c bytes v f = accepted_not_refused
