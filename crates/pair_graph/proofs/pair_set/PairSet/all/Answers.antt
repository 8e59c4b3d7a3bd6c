use Rattle.std.proofs.Common.{◌≡◌, ◌-◌, ◌*◌, ◌^◌, ◌<◌, ◌≤◌, length, replicate, true, refl, ap, sym, ◌∙◌, arith, get_or-set_other, length-set, pow_pos}
use Rattle.word_image.proofs.Common.{set_more, node_count, node_count_pos}
use Rattle.pair_graph.specs.PairRows.{truths-all}
use Rattle.pair_graph.proofs.pair_set.PairSet.all.Goals as goal

pub loop-u-preserved : goal.loop-u-preserved
loop-u-preserved c =
    let rows = c.loop-u.rows in
    let row = c.full-row.result in
    let i = c.from.result in
    let h = c.loop-u.invariant in
    let few : c.nodes-nodes.result ≤ 16 = omega (arith, c.nodes-nodes.ensures.rule.shape.most_nodes, c.nodes-nodes.ensures.nodes) in
    let inside : i < length rows = omega (arith, c.from.ensures, c.loop-u-test.true, h.long, few) in
    record {
      long = length-set rows i row ∙ h.long;
      full = set_more (λ _ x. x ≡ row) rows c.loop-u.u i 0 row (omega (arith, inside, c.from.ensures)) c.from.ensures h.full refl;
      past = λ u more. get_or-set_other rows i u row 0 (λ e. omega (arith, more, e, c.from.ensures)) ∙ h.past u (omega (arith, more));
    }

pub invariant_of-result : goal.invariant_of-result
invariant_of-result c =
    let n = c.nodes-nodes.result in
    let row : c.full-row.result ≡ 2 ^ n - 1 = c.full-row.ensures.set ∙ ap (λ m. 2 ^ m - 1) (sym c.nodes-nodes.ensures.nodes) in
    record {
      least = omega (arith, node_count_pos c.nodes-nodes.ensures.rule, c.nodes-nodes.ensures.nodes);
      most = omega (arith, c.nodes-nodes.ensures.rule.shape.most_nodes, c.nodes-nodes.ensures.nodes);
      long = c.loop-u.invariant.long;
      within = λ u less. omega (arith, c.loop-u.invariant.full u (omega (arith, less, c.loop-u-test.false)), row, pow_pos n);
      past = λ u more. c.loop-u.invariant.past u (omega (arith, more, c.loop-u.auto.u-end));
    }

pub returns-clause-set : goal.returns-clause-set
returns-clause-set c =
    let n = c.nodes-nodes.result in
    let row : c.full-row.result ≡ 2 ^ n - 1 = c.full-row.ensures.set ∙ ap (λ m. 2 ^ m - 1) (sym c.nodes-nodes.ensures.nodes) in
    truths-all n c.loop-u.rows (λ u less. c.loop-u.invariant.full u (omega (arith, less, c.loop-u-test.false)) ∙ row)
    ∙ ap (λ m. replicate (m * m) true) (c.nodes-nodes.ensures.nodes ∙ ap node_count c.graph-graph.ensures)
