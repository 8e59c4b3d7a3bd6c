use Rattle.std.proofs.Common.{◌∷◌, [], inl, inr, ⊎_elim, sym, take, slice_index}
use Rattle.word_image.proofs.Common.{take_more, Contains-push, Contains-push_cases, Contains-append_left}
use Rattle.cert_check.proofs.marks.Marks.of.Goals as goal

pub loop-set-preserved : goal.loop-set-preserved
loop-set-preserved c s =
    let old = take c.loop-set.set-index c.args.sets.now in
    let set = slice_index c.args.sets.now c.loop-set.set-index in
    let so_far = c.loop-set.invariant s in
    let new = c.mark.ensures s in
    rw (take_more c.args.sets.now c.loop-set.set-index 0 c.loop-set-test.true) (
      λ marked. ⊎_elim (λ same. rw same (Contains-push old set)) (λ before. Contains-append_left old (set ∷ []) s (so_far.0 before)) (new.0 marked),
      λ listed. new.1 (⊎_elim (λ before. inr (so_far.1 before)) (λ same. inl (sym same)) (Contains-push_cases old set s listed)),
    )
