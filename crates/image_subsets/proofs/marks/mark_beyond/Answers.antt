use Rattle.std.proofs.Common.{inl, inr, arith, ⊎_elim, below_more}
use Rattle.image_subsets.specs.Marks.{IsSetMarked, HoldsWithout}
use Rattle.image_subsets.proofs.marks.mark_beyond.Goals as goal

pub loop-u-preserved : goal.loop-u-preserved
loop-u-preserved c =
    let h = c.loop-u.invariant in
    record {
      long = omega arith;
      marks = λ x inside.
          let before = h.marks x inside in
          let now = c.spread_from.ensures x inside in (
            (λ marked. ⊎_elim
                (λ there. ⊎_elim (λ old. inl old) (λ (v, less, holds). inr (v, omega arith, holds)) (before.0 there))
                (λ holds. inr (c.loop-u.u, omega arith, holds))
                (now.0 marked)),
            ⊎_elim
                (λ old. now.1 (inl (before.1 (inl old))))
                (λ (v, less, holds). below_more (λ v. HoldsWithout c.args.others.now v x → IsSetMarked c.spread_from.new.rows x) c.loop-u.u
                (λ v less holds. now.1 (inl (before.1 (inr (v, less, holds))))) (λ holds. now.1 (inr holds)) v less holds),
          );
    }
