use Rattle.std.proofs.Common.{◌+◌, ◌-◌, ◌≤◌, refl, arith}
use Rattle.kept_sums.specs.Rows.{at}
use Rattle.kept_sums.specs.Fluxes.{IsFlowBy}
use Rattle.kept_sums.proofs.laws.Flows.{IsFluxOf-short_rings, IsKept-flux}
use Rattle.kept_sums.proofs.laws.Windows.{windows-most, IsFlowBy-flux, IsFlowBy-less}
use Rattle.kept_sums.proofs.fluxes.flux.Goals as goal

pub numbers-flux-requires-clause-few : goal.numbers-flux-requires-clause-few
numbers-flux-requires-clause-few c = grind (arith, windows-most)

pub flow_by-requires-clause-few : goal.flow_by-requires-clause-few
flow_by-requires-clause-few c = grind (arith, windows-most)

pub returns-then-flow_by-clause-flux : goal.returns-then-flow_by-clause-flux
returns-then-flow_by-clause-flux c = grind (arith, IsFlowBy-flux)

pub returns-then-flow_by-clause-kept : goal.returns-then-flow_by-clause-kept
returns-then-flow_by-clause-kept c = (
  λ yes. IsKept-flux c.m.ensures.rule c.args.range (at c.args.weights.now) (at c.numbers-flux.result) c.requires.some (returns-then-flow_by-clause-flux c).flux,
  λ kept. refl,
)

pub returns-else-flow_by-clause-kept : goal.returns-else-flow_by-clause-kept
returns-else-flow_by-clause-kept c = (
  λ yes. absurd (cc),
  λ kept.
      let rule = c.m.ensures.rule in
      let flux = IsFluxOf-short_rings rule c.args.range (at c.args.weights.now) c.requires.some (λ p ring _. kept p ring) in
      let by : IsFlowBy c.from-k.result (c.m.result + c.args.range - 2) (at c.gains-gains.result) flux.0 =
      rw (c.from-k.ensures, c.k.ensures.states, c.m.ensures.width)
      ((IsFlowBy-flux rule c.requires.some c.gains-gains.ensures.windows).0 flux.1) in
      let some : 1 ≤ c.from-k.result = omega (arith, c.from-k.ensures, c.k.ensures.states) in
      let yes = c.flow_by.ensures.1 (IsFlowBy-less (flux.0 0) some (c.numbers-flux.ensures.numbers flux.0 by) by) in
      absurd (cc),
)
