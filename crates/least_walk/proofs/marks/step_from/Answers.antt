use Rattle.std.proofs.Common.{◌≡◌, ◌*◌, sym, ap, ap₂, ◌∙◌, arith}
use Rattle.word_image.proofs.Common.{pair_of, pair_count, pair_count_pos}
use Rattle.least_walk.proofs.MarkedRows.{mark_to, mark_to-same, mark_to-differ, step-marked}
use Rattle.least_walk.proofs.marks.step_from.Goals as goal
use Rattle.least_walk.proofs.marks.step_from.Goals.{then-a-b, else-a-b}

pub returns-clause-step : goal.returns-clause-step
returns-clause-step c =
    let r = c.args.pairs.now in
    let t = c.args.from.pair in
    let same = c.graph-graph.ensures in
    let parts = c.requires.from.parts in
    let first = rw (same, parts.first) at c.label.ensures.label in
    let second = rw (same, parts.second) at c.label-2.ensures.label in
    let ends = ap₂ (pair_of r) (rw (same, parts.first) at c.next.ensures.node) (rw (same, parts.second) at c.next-2.ensures.node) in
    let mark : mark_to r t c.args.a c.args.b ≡ c.if-a-b.mark =
    elim c.if-a-b.branch [
      | then-a-b w ↦ mark_to-same r t c.args.a c.args.b (pair_count_pos c.requires.rule) c.requires.from.below w.if-a-b.true ∙ sym (w.mark-is ∙ parts.mark)
      | else-a-b w ↦ mark_to-differ r t c.args.a c.args.b w.if-a-b.false ∙ sym w.mark-is
    ] in
    sym (step-marked r t c.args.a c.args.b c.with_parts.result.pair (record {
      one_label = sym first ∙ c.if-label.false ∙ second;
      leads = omega (arith, c.with_parts.ensures.pair, ends, ap (λ m. m * pair_count r) mark);
    }))
