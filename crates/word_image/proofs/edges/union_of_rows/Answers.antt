use Rattle.std.proofs.Common.{ℕ, ◌+◌, slice_index, bit_or, IsBitSet, sym, subst, arith}
use Rattle.word_image.specs.Graphs.{HasBit}
use Rattle.word_image.proofs.Common.{bit_set_by_shift}
use Rattle.word_image.proofs.laws.Unions.{IsUnion, IsUnion-skip, IsUnion-take}
use Rattle.word_image.proofs.edges.union_of_rows.Goals as goal
use Rattle.word_image.proofs.edges.union_of_rows.Goals.{then-set-u-eq1, else-set-u-eq1}

pub loop-u-preserved : goal.loop-u-preserved
loop-u-preserved c =
    let count = c.args.nodes in
    let set = c.args.set in
    let rows = c.args.rows.now in
    let u = c.loop-u.u in
    let Has : ℕ → ℕ → Type 0 = λ i v. IsBitSet set i × HasBit rows i v in
    elim c.if-set-u-eq1.branch [
      | then-set-u-eq1 w ↦
          let present = (bit_set_by_shift set u).0 w.if-set-u-eq1.true in
          subst (IsUnion count Has (u + 1)) (sym w.after-is)
          (subst (λ k. IsUnion count Has (u + 1) (bit_or c.loop-u.after (slice_index rows k))) (sym w.from.ensures)
          (IsUnion-take c.loop-u.invariant (c.requires.within u (omega arith)) (λ v inside. (λ some. (present, some), λ both. both.1))))
      | else-set-u-eq1 w ↦
          subst (IsUnion count Has (u + 1)) (sym w.after-is)
          (IsUnion-skip c.loop-u.invariant (λ v both. w.if-set-u-eq1.false ((bit_set_by_shift set u).1 both.0)))
    ]

pub returns : goal.returns
returns c =
    grind arith
