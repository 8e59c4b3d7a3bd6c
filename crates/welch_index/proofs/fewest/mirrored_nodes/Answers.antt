use Rattle.std.proofs.Common.{◌≡◌, ◌↔◌, ℕ, ◌/◌, ◌^◌, IsBitSet, subst, arith, bit_and}
use Rattle.word_image.proofs.Common.{one_shl, bit_set_by_shift, IsSetTo-take, IsSetTo-skip}
use Rattle.pair_laws.proofs.Mirrors.{mirror_node}
use Rattle.welch_index.proofs.fewest.mirrored_nodes.Goals as goal
use Rattle.welch_index.proofs.fewest.mirrored_nodes.Goals.{then-set-mirrored_node-eq1, else-set-mirrored_node-eq1}

pub loop-u-preserved : goal.loop-u-preserved
loop-u-preserved c =
    let u = c.loop-u.u in
    let set = c.args.set in
    let Holds : ℕ → Type 0 = λ i. IsBitSet set (mirror_node c.args.rule.now i) in
    let lowest = subst (λ p. (bit_and (set / 2 ^ c.mirrored_node.result) 1 ≡ 1) ↔ IsBitSet set p) c.mirrored_node.ensures.value (bit_set_by_shift set c.mirrored_node.result) in
    elim c.if-set-mirrored_node-eq1.branch [
      | then-set-mirrored_node-eq1 w ↦ rw w.nodes-is
          (IsSetTo-take Holds c.loop-u.invariant (omega arith) (one_shl u 16 (omega (arith, c.nodes-u-end.ensures.rule.shape.most_nodes))) (lowest.0 w.if-set-mirrored_node-eq1.true))
      | else-set-mirrored_node-eq1 w ↦ rw w.nodes-is (IsSetTo-skip Holds c.loop-u.invariant (λ bit. w.if-set-mirrored_node-eq1.false (lowest.1 bit)))
    ]
