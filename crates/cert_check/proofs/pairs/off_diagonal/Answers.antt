use Rattle.std.proofs.Common.{ap}
use Rattle.cert_values.proofs.Common.{surjective_of}
use Rattle.cert_conditions.proofs.Common.{Diagonal}
use Rattle.cert_check.proofs.pairs.off_diagonal.Goals as goal

pub returns-in-Some : goal.returns-in-Some
returns-in-Some c = rw (← c.cert.view_is) (Diagonal c.in-Pairs.pairs c.in-Some.place (ap surjective_of c.in-Pairs.is) (rw c.as_slice.ensures at c.in-Some.ensures))
