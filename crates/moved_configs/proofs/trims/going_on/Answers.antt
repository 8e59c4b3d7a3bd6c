use Rattle.std.proofs.Common.{ℕ, sym, ◌∙◌, arith}
use Rattle.word_image.proofs.Common.{IsSetTo-skip, IsSetTo-take, IsSetTo-all, one_shl, false≢true}
use Rattle.moved_configs.specs.Trims.{GoesOn}
use Rattle.moved_configs.proofs.trims.going_on.Goals as goal
use Rattle.moved_configs.proofs.trims.going_on.Goals.{then-goes_on, else-goes_on}

pub loop-node-preserved : goal.loop-node-preserved
loop-node-preserved c =
    let r = c.args.rule.now in
    let u = c.loop-node.node in
    let Holds : ℕ → Type 0 = GoesOn c.args.side r c.args.place c.args.nodes in
    elim c.if-goes_on.branch [
      | then-goes_on w ↦
          rw w.found-is (IsSetTo-take Holds c.loop-node.invariant (omega arith) (one_shl u 16 (omega (arith, c.nodes-node-end.ensures.rule.shape.most_nodes))) (c.goes_on.ensures.0 w.if-goes_on.true))
      | else-goes_on w ↦
          rw w.found-is (IsSetTo-skip Holds c.loop-node.invariant (λ goes. false≢true (sym w.if-goes_on.false ∙ c.goes_on.ensures.1 goes)))
    ]

pub returns-clause-nodes : goal.returns-clause-nodes
returns-clause-nodes c = IsSetTo-all (GoesOn c.args.side c.args.rule.now c.args.place c.args.nodes) (omega arith) c.loop-node.invariant
