use Rattle.std.proofs.Common.{ap}
use Rattle.word_image.proofs.Common.{full_set}
use Rattle.cert_values.proofs.Common.{surjective_of}
use Rattle.cert_conditions.proofs.Common.{NoOrphan}
use Rattle.cert_conditions.proofs.laws.Steps.{LeadsTo-unique}
use Rattle.cert_check.proofs.orphans.orphan_read.Goals as goal

pub returns-else-reached-eq0 : goal.returns-else-reached-eq0
returns-else-reached-eq0 c =
    let r = c.cert.inside.rule in
    rw (← c.cert.view_is)
    (NoOrphan c.in-Orphan.word (ap surjective_of c.in-Orphan.is) (λ empty. c.if-reached-eq0.false (LeadsTo-unique r c.in-Orphan.word (full_set r) c.reached.result 0 (rw c.as_slice.ensures at c.reached.ensures) empty)))
