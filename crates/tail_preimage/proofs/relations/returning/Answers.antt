use Rattle.std.proofs.Common.{◌≡◌, ◌↔◌, ℕ, ◌/◌, ◌^◌, sym, subst, arith, slice_index, bit_and}
use Rattle.word_image.proofs.Common.{one_shl, bit_set_by_shift, IsSetTo-take, IsSetTo-skip, HasBit}
use Rattle.tail_preimage.proofs.relations.returning.Goals as goal
use Rattle.tail_preimage.proofs.relations.returning.Goals.{then-rows-from-eq1, else-rows-from-eq1}

pub loop-u-preserved : goal.loop-u-preserved
loop-u-preserved c =
    let u = c.loop-u.u in
    let rows = c.args.rows.now in
    let Holds : ℕ → Type 0 = λ i. HasBit rows i i in
    let lowest = subst (λ k. (bit_and (slice_index rows k / 2 ^ u) 1 ≡ 1) ↔ Holds u) (sym c.from.ensures) (bit_set_by_shift (slice_index rows u) u) in
    elim c.if-rows-from-eq1.branch [
      | then-rows-from-eq1 w ↦ rw w.set-is
          (IsSetTo-take Holds c.loop-u.invariant (omega arith) (one_shl u 16 (omega (arith, c.nodes-u-end.ensures.rule.shape.most_nodes))) (lowest.0 w.if-rows-from-eq1.true))
      | else-rows-from-eq1 w ↦ rw w.set-is (IsSetTo-skip Holds c.loop-u.invariant (λ bit. w.if-rows-from-eq1.false (lowest.1 bit)))
    ]
