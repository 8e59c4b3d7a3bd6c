use Rattle.std.proofs.Common.{ap}
use Rattle.cert_values.proofs.Common.{Certificate}
use Rattle.cert_conditions.proofs.Common.{Rising}
use Rattle.cert_check.proofs.claims.side_claims.Goals as goal

pub returns-in-Some : goal.returns-in-Some
returns-in-Some c = Rising c.args.side c.in-Some.pair (rw (ap (λ (z : Certificate). z.rule) c.cert.view_is, c.claims_on.ensures.row) at c.in-Some.ensures)
