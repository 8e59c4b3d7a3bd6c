use Rattle.std.proofs.Common.{◌≡◌, ◌<◌, slice_index, set, pos, w32, FitsSigned, to_z, of_z, ap, ◌∙◌, arith, rules}
use Rattle.std.proofs.lemmas.Int.{to_z-of_z}
use Rattle.word_image.proofs.Common.{filled_more}
use Rattle.ring_laws.proofs.FluxWalks.{walk_gain}
use Rattle.flux_conserve.proofs.flows.walk_flows.Goals as goal

pub loop-node-preserved : goal.loop-node-preserved
loop-node-preserved c =
    let r = c.args.rule.now in
    let v = c.loop-node.node in
    let weight = slice_index c.args.weights.now in
    let fits : FitsSigned w32 c.walk_flow.result = search rules in
    let gives : to_z w32 (of_z w32 c.walk_flow.result) ≡ walk_gain weight r v = to_z-of_z w32 c.walk_flow.result fits ∙ c.walk_flow.ensures in
    let most : v < 16 = omega (arith, c.nodes-node-end.ensures.rule.shape.most_nodes) in
    rw c.from.ensures (ap (λ row. set row v (to_z w32 (of_z w32 c.walk_flow.result))) c.loop-node.invariant
    ∙ filled_more (walk_gain weight r) (pos 0) 16 v (to_z w32 (of_z w32 c.walk_flow.result)) most gives)
