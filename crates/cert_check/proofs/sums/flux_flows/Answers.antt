use Rattle.std.proofs.Common.{ap}
use Rattle.cert_values.proofs.Common.{sum_of}
use Rattle.cert_conditions.proofs.Common.{NoFlux}
use Rattle.cert_check.proofs.sums.flux_flows.Goals as goal

pub returns-in-Some : goal.returns-in-Some
returns-in-Some c = rw (← c.cert.view_is) (NoFlux c.in-Flux.flux c.in-Some.window (ap sum_of c.in-Flux.is) (rw c.as_slice.ensures at c.in-Some.ensures))
