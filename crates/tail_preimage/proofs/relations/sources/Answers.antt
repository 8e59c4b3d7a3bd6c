use Rattle.std.proofs.Common.{◌≡◌, ◌≢◌, ℕ, subst, arith, slice_index, bit_and}
use Rattle.word_image.proofs.Common.{one_shl, IsSetTo-take, IsSetTo-skip}
use Rattle.tail_preimage.proofs.Meets.{sets_meet}
use Rattle.tail_preimage.proofs.relations.sources.Goals as goal
use Rattle.tail_preimage.proofs.relations.sources.Goals.{then-rows-from-ne0, else-rows-from-ne0}

pub loop-u-preserved : goal.loop-u-preserved
loop-u-preserved c =
    let rows = c.args.rows.now in
    let Holds : ℕ → Type 0 = λ i. bit_and (slice_index rows i) c.args.set ≢ 0 in
    elim c.if-rows-from-ne0.branch [
      | then-rows-from-ne0 w ↦ rw w.before-is
          (IsSetTo-take Holds c.loop-u.invariant (omega arith) (one_shl c.loop-u.u 16 (omega arith)) (subst Holds c.from.ensures w.if-rows-from-ne0.true))
      | else-rows-from-ne0 w ↦ rw w.before-is
          (IsSetTo-skip Holds c.loop-u.invariant (λ other. other (subst (λ k. bit_and (slice_index rows k) c.args.set ≡ 0) c.from.ensures w.if-rows-from-ne0.false)))
    ]

pub returns : goal.returns
returns c = grind (arith, sets_meet)
