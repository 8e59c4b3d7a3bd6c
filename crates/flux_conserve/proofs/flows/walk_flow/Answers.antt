use Rattle.std.proofs.Common.{◌≡◌, ℕ, slice_index, suc, ◌+◌, ◌-◌, ◌*◌, ◌%◌, ◌<◌, ◌+ℤ◌, ap, ◌∙◌, arith, mod-lt}
use Rattle.word_image.proofs.Common.{ints, LocalRule, node_count, node_count_pos}
use Rattle.ring_laws.proofs.FluxWindows.{window_gain, walk_sum, walk_gain-sum}
use Rattle.flux_conserve.proofs.flows.walk_flow.Goals as goal

-- the sum of a walk with one window more
walk_sum-next : (weight : ℕ → ℕ) (r : LocalRule) (u n : ℕ) → n < r.width
    → walk_sum weight r u (r.width - n) ≡ window_gain weight r (u * r.states) +ℤ walk_sum weight r (u * r.states % node_count r) (r.width - (n + 1))
walk_sum-next weight r u n l = let e : r.width - n ≡ suc (r.width - (n + 1)) = omega arith in ap (walk_sum weight r u) e

pub loop-init : goal.loop-init
loop-init c =
    let whole = walk_gain-sum c.m-end.ensures.rule (slice_index c.args.weights.now) c.args.node c.requires.node in
    (c.requires.node, omega (arith, ints), omega (arith, ints), omega (arith, ints))

pub loop-preserved : goal.loop-preserved
loop-preserved c =
    let r = c.args.rule.now in
    let u = c.loop.node in
    let weight = slice_index c.args.weights.now in
    let window : c.window_with-window.result ≡ u * r.states = omega (arith, c.window_with-window.ensures.value) in
    let next : c.end_node-node.result ≡ u * r.states % node_count r = c.end_node-node.ensures.value ∙ ap (λ w. w % node_count r) window in
    let more = walk_sum-next weight r u c.loop.counter (omega arith) in
    let gain : c.window_flow-flow.result ≡ window_gain weight r (u * r.states) = c.window_flow-flow.ensures.gain ∙ ap (window_gain weight r) window in
    let within : u * r.states % node_count r < node_count r = mod-lt (u * r.states) (node_count_pos c.end_node-node.ensures.rule) in
    let few = c.end_node-node.ensures.rule.shape.most_width in
    rw next (within, omega (arith, ints), omega (arith, ints), omega (arith, ints))
