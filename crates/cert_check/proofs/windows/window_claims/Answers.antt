use Rattle.std.proofs.Common.{ap}
use Rattle.cert_values.proofs.Common.{injective_of}
use Rattle.cert_conditions.proofs.Common.{NoWindow}
use Rattle.cert_check.proofs.windows.window_claims.Goals as goal

pub returns-in-Some : goal.returns-in-Some
returns-in-Some c =
    rw (← c.cert.view_is)
    (NoWindow c.in-Window.n c.in-Window.c c.in-Some.pair (ap injective_of c.in-Window.is) (rw (c.claims_on-forward.ensures.row, c.claims_on-backward.ensures.row, ← c.cert.view_is) at c.in-Some.ensures))
