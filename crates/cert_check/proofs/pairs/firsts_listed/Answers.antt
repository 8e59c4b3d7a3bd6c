use Rattle.std.proofs.Common.{ap}
use Rattle.cert_values.proofs.Common.{surjective_of}
use Rattle.cert_conditions.proofs.Common.{NoFirst}
use Rattle.cert_check.proofs.pairs.firsts_listed.Goals as goal

pub returns-in-Some : goal.returns-in-Some
returns-in-Some c = rw (← c.cert.view_is) (NoFirst c.in-Pairs.pairs c.in-Some.pair (ap surjective_of c.in-Pairs.is) (rw c.as_slice.ensures at c.in-Some.ensures))

pub returns-in-None : goal.returns-in-None
returns-in-None c = rw (← c.cert.view_is, ap surjective_of c.in-Pairs.is) (rw c.as_slice.ensures at c.in-None.ensures)
