use Rattle.std.proofs.Common.{ap}
use Rattle.cert_values.proofs.Common.{surjective_of}
use Rattle.cert_conditions.proofs.Common.{Leaves}
use Rattle.cert_check.proofs.pairs.pairs_closed.Goals as goal

pub returns-in-Some : goal.returns-in-Some
returns-in-Some c =
    let both = rw c.as_slice.ensures at c.in-Some.ensures in
    rw (← c.cert.view_is) (Leaves c.in-Pairs.pairs c.in-Some.place c.in-Some.a c.in-Some.b (ap surjective_of c.in-Pairs.is) both.0 both.1)

pub returns-in-None : goal.returns-in-None
returns-in-None c = rw (← c.cert.view_is, ap surjective_of c.in-Pairs.is) (rw c.as_slice.ensures at c.in-None.ensures)
