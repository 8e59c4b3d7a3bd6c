use Rattle.std.proofs.Common.{Contains, ap, arith}
use Rattle.cert_values.proofs.Common.{surjective_of}
use Rattle.cert_conditions.proofs.Common.{NoFull}
use Rattle.cert_check.proofs.sets.full_listed.Goals as goal

pub returns-else-contains : goal.returns-else-contains
returns-else-contains c =
    let none : ¬ Contains c.as_slice.result.now c.all_nodes.result = grind arith in
    rw (← c.cert.view_is) (NoFull c.in-Sets.sets (ap surjective_of c.in-Sets.is) (rw (c.as_slice.ensures, c.all_nodes.ensures.set) at none))
