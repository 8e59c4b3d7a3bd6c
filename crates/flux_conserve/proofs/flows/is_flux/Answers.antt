use Rattle.std.proofs.Common.{refl, sym, ◌∙◌, arith}
use Rattle.ring_laws.proofs.FluxWindows.{IsFlux-windows, FlowsAt-flux}
use Rattle.flux_conserve.proofs.flows.is_flux.Goals as goal

pub returns : goal.returns
returns c = (λ yes. IsFlux-windows c.size-window-end.ensures.rule c.requires.nodes (λ v l. c.loop-window.invariant v (omega arith)), λ flux. refl)

pub returns-then-not-flows : goal.returns-then-not-flows
returns-then-not-flows c = (
  λ no. absurd (cc),
  λ flux.
      let here = FlowsAt-flux c.size-window-end.ensures.rule flux c.loop-window.window (omega arith) in
      sym c.if-not-flows.true ∙ c.flows.ensures.1 here,
)
