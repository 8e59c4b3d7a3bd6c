use Rattle.std.proofs.Common.{slice_index, refl}
use Rattle.flux_conserve.proofs.FluxRows.{IsConserving-gains_row, IsFluxRow-gains_row}
use Rattle.flux_conserve.proofs.verdict.conserve.Goals as goal

pub first_lossy_ring-requires-clause-lossy : goal.first_lossy_ring-requires-clause-lossy
first_lossy_ring-requires-clause-lossy c keep =
    let told = rw (c.from.ensures, c.nodes.ensures.nodes, c.walk_flows-flows.ensures) at c.is_flux.ensures in
    let yes = told.1 ((IsConserving-gains_row c.nodes.ensures.rule (slice_index c.args.weights.now)).0 keep) in
    absurd (cc)

pub returns-then-is_flux : goal.returns-then-is_flux
returns-then-is_flux c =
    let weight = slice_index c.args.weights.now in
    let rule = c.nodes.ensures.rule in
    let flux = (rw (c.from.ensures, c.nodes.ensures.nodes, c.walk_flows-flows.ensures) at c.is_flux.ensures).0 c.if-is_flux.true in
    record {
      conserving = (λ yes. (IsConserving-gains_row rule weight).1 flux, λ keep. refl);
      shown = rw c.walk_flows-flows.ensures (IsFluxRow-gains_row rule weight flux);
      short = tt;
    }
