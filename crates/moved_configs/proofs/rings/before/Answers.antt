use Rattle.std.proofs.Common.{ℕ, sym, ◌∙◌, arith}
use Rattle.word_image.proofs.Common.{IsSetTo-skip, IsSetTo-take, one_shl, false≢true}
use Rattle.moved_configs.specs.MovedRings.{LeadsInto}
use Rattle.moved_configs.proofs.rings.before.Goals as goal
use Rattle.moved_configs.proofs.rings.before.Goals.{then-leads_into, else-leads_into}

pub loop-node-preserved : goal.loop-node-preserved
loop-node-preserved c =
    let r = c.args.rule.now in
    let u = c.loop-node.node in
    let Holds : ℕ → Type 0 = LeadsInto r c.args.rows.now c.args.nodes in
    elim c.if-leads_into.branch [
      | then-leads_into w ↦
          rw w.found-is (IsSetTo-take Holds c.loop-node.invariant (omega arith) (one_shl u 16 (omega (arith, c.nodes-node-end.ensures.rule.shape.most_nodes))) (c.leads_into.ensures.0 w.if-leads_into.true))
      | else-leads_into w ↦
          rw w.found-is (IsSetTo-skip Holds c.loop-node.invariant (λ leads. false≢true (sym w.if-leads_into.false ∙ c.leads_into.ensures.1 leads)))
    ]
