use Rattle.std.proofs.Common.{◌≡◌, ℕ, ◌/◌, ◌%◌, ◌<◌, get_or, slice_index, ℤ, pos, w32, FitsSigned, sym, ap, ◌∙◌, arith, rules}
use Rattle.word_image.proofs.Common.{get_or-map-range_with_len, node_count}
use Rattle.ring_laws.proofs.FluxWalks.{walk_gain, walk_gains}
use Rattle.flux_conserve.proofs.Differences.{is_passed_difference}
use Rattle.flux_conserve.proofs.flows.walks_flow.Goals as goal

pub returns : goal.returns
returns c =
    let r = c.args.rule.now in
    let v = c.args.window in
    let weight = slice_index c.args.weights.now in
    let at : (u n : ℕ) (x : ℤ) → u < node_count r → u ≡ n → x ≡ walk_gain weight r u → x ≡ get_or (walk_gains weight r) n (pos 0) = λ u n x inside same is.
    is ∙ ap (walk_gain weight r) same ∙ sym (get_or-map-range_with_len (walk_gain weight r) 0 (node_count r) n n (pos 0) (omega arith) (omega arith)) in
    let first = at c.end_node.result (v / r.states) c.walk_flow-first.result c.end_node.ensures.node c.end_node.ensures.value c.walk_flow-first.ensures in
    let last = at c.end_node-2.result (v % node_count r) c.walk_flow-last.result c.end_node-2.ensures.node c.end_node-2.ensures.value c.walk_flow-last.ensures in
    let fits : FitsSigned w32 c.window_flow.result = search rules in
    let fits_first : FitsSigned w32 c.walk_flow-first.result = search rules in
    let fits_last : FitsSigned w32 c.walk_flow-last.result = search rules in
    rw (← c.window_flow.ensures.gain, ← first, ← last) (is_passed_difference _ _ _ _ _ _ fits fits_first fits_last c.from.ensures c.from-2.ensures c.from-3.ensures)
