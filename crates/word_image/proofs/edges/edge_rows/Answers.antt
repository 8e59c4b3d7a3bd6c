use Rattle.std.proofs.lemmas.Grind.{common_steps}
use Rattle.std.proofs.Common.{◌*◌, replicate, zero-mul, sym, subst, arith}
use Rattle.word_image.proofs.laws.Edges.{HaveEdges, HaveEdges-none, HaveEdges-more, AreEdgeRows-all}
use Rattle.word_image.proofs.edges.edge_rows.Goals as goal

pub loop-node-init : goal.loop-node-init
loop-node-init c =
    let r = c.args.rule.now in
    subst (λ n. HaveEdges c.args.side r n (replicate 16 (replicate 16 0))) (sym (zero-mul r.states)) (HaveEdges-none c.args.side r)

pub loop-letter-preserved : goal.loop-letter-preserved
loop-letter-preserved c = grind (arith, common_steps, HaveEdges-more)

pub returns-clause-edges : goal.returns-clause-edges
returns-clause-edges c = AreEdgeRows-all c.nodes-node-end.ensures.rule (subst (λ n. HaveEdges c.args.side c.args.rule.now (n * c.args.rule.now.states) c.loop-node.ends) (omega arith) c.loop-node.invariant)
