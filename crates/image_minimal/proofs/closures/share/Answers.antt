use Rattle.image_minimal.proofs.Common.{◌≡◌, ◌+◌, ◌-◌, ◌*◌, ◌^◌, ◌<◌, ◌≤◌, set, slice_index, IsBitSet, bit_and, ap, sym, subst, arith, ◌∙◌, pow_pos, one_shl, node_count, ArePartClosures}
use Rattle.image_minimal.proofs.laws.ClosureTables.{half-within, lacks-first_half, has-second_half, ArePartClosures-set, ArePartClosures-skip, ArePartClosures-next, whole_blocks, blocks-all}
use Rattle.image_minimal.proofs.closures.share.Goals as goal

pub bounds-closures-set : goal.bounds-closures-set
bounds-closures-set c =
    let n = c.nodes.result in
    let u = c.args.u in
    let nodes : node_count c.args.graph.now ≡ n = omega (arith, c.nodes.ensures.nodes) in
    let inside = half-within n u c.loop-block.block c.loop-set.set (omega (arith, c.nodes.ensures.nodes, c.nodes.ensures.rule.shape.most_nodes)) (omega (arith, nodes, c.requires.node)) c.loop-block-test.true c.loop-set-test.true in
    omega (arith, inside, c.loop-set.invariant.long ∙ ap (λ x. 2 ^ x) nodes)

pub bounds-closures-set-in-loop-set : goal.bounds-closures-set-in-loop-set
bounds-closures-set-in-loop-set c =
    let n = c.nodes.result in
    let u = c.args.u in
    let nodes : node_count c.args.graph.now ≡ n = omega (arith, c.nodes.ensures.nodes) in
    let inside = half-within n u c.loop-block.block c.loop-set.set (omega (arith, c.nodes.ensures.nodes, c.nodes.ensures.rule.shape.most_nodes)) (omega (arith, nodes, c.requires.node)) c.loop-block-test.true c.loop-set-test.true in
    omega (arith, inside, c.loop-set.invariant.long ∙ ap (λ x. 2 ^ x) nodes)

pub bounds-closures-set-in-loop-set-2 : goal.bounds-closures-set-in-loop-set-2
bounds-closures-set-in-loop-set-2 c =
    let n = c.nodes.result in
    let u = c.args.u in
    let nodes : node_count c.args.graph.now ≡ n = omega (arith, c.nodes.ensures.nodes) in
    let inside = half-within n u c.loop-block.block c.loop-set.set (omega (arith, c.nodes.ensures.nodes, c.nodes.ensures.rule.shape.most_nodes)) (omega (arith, nodes, c.requires.node)) c.loop-block-test.true c.loop-set-test.true in
    omega (arith, inside, c.loop-set.invariant.long ∙ ap (λ x. 2 ^ x) nodes)

pub loop-set-preserved : goal.loop-set-preserved
loop-set-preserved c =
    let u = c.args.u in
    let block = c.loop-block.block in
    let s = c.loop-set.set in
    let parts = c.loop-set.closures in
    let fits : u < 64 = omega (arith, c.requires.node, c.nodes.ensures.rule.shape.most_nodes) in
    let step = one_shl u 64 fits in
    let first = ap (λ p. block * (2 * p)) step in
    let least : block * (2 * 2 ^ u) ≤ s = omega (arith, step, first) in
    let less : s - block * (2 * 2 ^ u) < 2 ^ u = omega (arith, step, first, c.loop-set-test.true, pow_pos u) in
    let missing : ¬ IsBitSet s u = subst (λ x. ¬ IsBitSet x u) (omega (arith, least)) (lacks-first_half block u (s - block * (2 * 2 ^ u)) less) in
    let n = c.nodes.result in
    let nodes : node_count c.args.graph.now ≡ n = omega (arith, c.nodes.ensures.nodes) in
    let within = half-within n u c.loop-block.block c.loop-set.set (omega (arith, c.nodes.ensures.nodes, c.nodes.ensures.rule.shape.most_nodes)) (omega (arith, nodes, c.requires.node)) c.loop-block-test.true c.loop-set-test.true in
    let inside : s + 2 ^ u < 2 ^ node_count c.args.graph.now = omega (arith, step, within, ap (λ x. 2 ^ x) nodes) in
    subst (λ p. ArePartClosures c.args.graph.now u (s + 1) (set parts s (bit_and (slice_index parts s) (slice_index parts (s + p))))) (sym step) (ArePartClosures-set c.loop-set.invariant inside missing)

pub loop-block-preserved : goal.loop-block-preserved
loop-block-preserved c =
    let u = c.args.u in
    let block = c.loop-block.block in
    let s = c.loop-set.set in
    let fits : u < 64 = omega (arith, c.requires.node, c.nodes.ensures.rule.shape.most_nodes) in
    let step = one_shl u 64 fits in
    let first = ap (λ p. block * (2 * p)) step in
    let next : (block + 1) * (2 * 2 ^ u) ≡ block * (2 * 2 ^ u) + 2 * 2 ^ u = whole_blocks block (2 * 2 ^ u) in
    let half : s ≡ block * (2 * 2 ^ u) + 2 ^ u = omega (arith, step, first, c.loop-set-test.false) in
    ArePartClosures-skip c.loop-set.invariant (omega (arith, next, half)) (λ x least less.
    subst (λ y. IsBitSet y u) (omega (arith, half, least)) (has-second_half block u (x - (block * (2 * 2 ^ u) + 2 ^ u)) (omega (arith, next, half, least, less))))

pub returns : goal.returns
returns c =
    let u = c.args.u in
    let n = c.nodes.result in
    let block = c.loop-block.block in
    let nodes : node_count c.args.graph.now ≡ n = omega (arith, c.nodes.ensures.nodes) in
    let count = one_shl (n - 1 - u) 64 (omega (arith, c.nodes.ensures.nodes, c.nodes.ensures.rule.shape.most_nodes)) in
    let all : 2 ^ (n - 1 - u) ≤ block = omega (arith, count, c.loop-block-test.false) in
    ArePartClosures-next c.loop-block.invariant (omega (arith, ap (λ x. 2 ^ x) nodes, blocks-all n u block (omega (arith, nodes, c.requires.node)) all))
