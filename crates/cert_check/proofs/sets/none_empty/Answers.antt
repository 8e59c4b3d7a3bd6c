use Rattle.std.proofs.Common.{ap}
use Rattle.cert_values.proofs.Common.{surjective_of}
use Rattle.cert_conditions.proofs.Common.{Empty}
use Rattle.cert_check.proofs.sets.none_empty.Goals as goal

pub returns-in-Some : goal.returns-in-Some
returns-in-Some c = rw (← c.cert.view_is) (Empty c.in-Sets.sets c.in-Some.place (ap surjective_of c.in-Sets.is) (rw c.as_slice.ensures at c.in-Some.ensures))
