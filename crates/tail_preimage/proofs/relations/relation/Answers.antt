use Rattle.std.proofs.Common.{◌-◌, [], length, drop, slice_index, subst, arith}
use Rattle.word_image.proofs.Common.{drop_all}
use Rattle.tail_preimage.specs.Walks.{HasWalk}
use Rattle.tail_preimage.proofs.laws.Walks.{IsWalk-none, IsWalk-stays, HasWalk-cons}
use Rattle.tail_preimage.proofs.laws.Stretches.{drop-more}
use Rattle.tail_preimage.proofs.Rows.{IsRelation-same}
use Rattle.tail_preimage.proofs.relations.relation.Goals as goal

pub loop-n-init : goal.loop-n-init
loop-n-init c =
    let r = c.args.graph.now in
    let w = c.args.word.now in
    rw (drop_all (length w - 0) w (omega arith)) (IsRelation-same (λ u v l _. ((λ same. subst (HasWalk r [] u) same (_, IsWalk-none r u l)), (λ walk. IsWalk-stays walk.1))) c.identity-rows.ensures.relation)

pub loop-n-preserved : goal.loop-n-preserved
loop-n-preserved c =
    let w = c.args.word.now in
    let n = c.loop-n.n in
    let a = slice_index w (length w - 1 - n) in
    let rest = drop (length w - n) w in
    let edges = c.edges.ensures in
    let before = c.loop-n.invariant in
    rw (drop-more w n (omega arith)) (IsRelation-same (λ u v l below. (
      (λ (m, node, (edge, walk)). (HasWalk-cons edges.rule a rest u v l).1 (m, node, ((edges.relation.rows u l).nodes m node).0 edge, ((before.rows m node).nodes v below).0 walk)),
      (λ walk. let (m, node, edge, on) = (HasWalk-cons edges.rule a rest u v l).0 walk in (m, node, (((edges.relation.rows u l).nodes m node).1 edge, ((before.rows m node).nodes v below).1 on))),
    )) c.joined-rows.ensures)
