use Rattle.std.proofs.Common.{length, slice_index, refl, arith}
use Rattle.ring_laws.proofs.LossyRings.{IsFlux-short_rings}
use Rattle.ring_laws.proofs.Fluxes.{IsConserving-flux}
use Rattle.flux_conserve.proofs.LeastRings.{IsLeastLossyRing-first}
use Rattle.flux_conserve.proofs.rings.first_lossy_ring.Goals as goal

pub returns-in-Some : goal.returns-in-Some
returns-in-Some c = record {
  least = IsLeastLossyRing-first c.loop-count.invariant c.in-Some.ensures.first;
  short = omega (arith, c.in-Some.ensures.first.long);
}

pub unreachable-requires : goal.unreachable-requires
unreachable-requires c =
    let rule = c.m-count-end.ensures.rule in
    c.requires.lossy (IsConserving-flux rule (IsFlux-short_rings rule (slice_index c.args.weights.now) (λ p ring short. c.loop-count.invariant (length p) (omega arith) p ring refl)))
