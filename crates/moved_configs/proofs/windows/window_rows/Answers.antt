use Rattle.std.proofs.Common.{◌≡◌, ◌≢◌, arith, length-set, ◌∙◌, refl}
use Rattle.word_image.proofs.Common.{IsSetOf, set_more, at-set, slice_index-zeros}
use Rattle.moved_configs.specs.Trims.{Stays}
use Rattle.moved_configs.proofs.windows.window_rows.Goals as goal

pub loop-node-init : goal.loop-node-init
loop-node-init c = record {
  long = omega arith;
  done = λ u l. absurd (omega (arith, l));
  rest = λ u l. slice_index-zeros 16 u;
}

pub loop-node-preserved : goal.loop-node-preserved
loop-node-preserved c =
    let r = c.args.rule.now in
    let few = c.nodes-node-end.ensures.rule.shape.most_nodes in
    let h = c.loop-node.invariant in
    let rows = c.loop-node.rows in
    let n = c.from.result in
    let row = c.letters_from.result in
    record {
      long = length-set rows n row ∙ h.long;
      done = set_more (λ u x. IsSetOf r.states (Stays r c.args.place c.args.nodes u) x) rows c.loop-node.node n 0 row (omega (arith, few, h.long)) c.from.ensures h.done c.letters_from.ensures.letters;
      rest = λ u l. at-set (λ v x. v ≢ n → x ≡ 0) rows n 0 row (omega (arith, few, h.long, c.from.ensures)) u (λ other same. h.rest u (omega arith)) (λ other. absurd (other refl)) (omega (arith, c.from.ensures));
    }
