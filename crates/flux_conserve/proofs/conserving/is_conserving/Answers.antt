use Rattle.std.proofs.Common.{sym, ◌∙◌, refl, slice_index, arith}
use Rattle.word_image.proofs.Common.{length-map-range_with_len, node_count}
use Rattle.ring_laws.proofs.FluxWalks.{walk_gain}
use Rattle.ring_laws.proofs.FluxWindows.{IsFlux-windows, FlowsAt-flux}
use Rattle.ring_laws.proofs.LossyRings.{IsConserving-walk_gains}
use Rattle.flux_conserve.proofs.conserving.is_conserving.Goals as goal

pub returns : goal.returns
returns c =
    let r = c.args.rule.now in
    let weight = slice_index c.args.weights.now in
    let rule = c.size-window-end.ensures.rule in (
      λ yes. (IsConserving-walk_gains rule weight).1 (IsFlux-windows rule (length-map-range_with_len (walk_gain weight r) 0 (node_count r)) (λ v l. c.loop-window.invariant v (omega arith))),
      λ keep. refl,
    )

pub returns-then-not-walks_flow : goal.returns-then-not-walks_flow
returns-then-not-walks_flow c =
    let weight = slice_index c.args.weights.now in
    let rule = c.size-window-end.ensures.rule in (
      λ no. absurd (cc),
      λ keep.
          let here = FlowsAt-flux rule ((IsConserving-walk_gains rule weight).0 keep) c.loop-window.window (omega arith) in
          sym c.if-not-walks_flow.true ∙ c.walks_flow.ensures.1 here,
    )
