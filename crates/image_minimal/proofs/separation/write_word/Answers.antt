use Rattle.image_minimal.proofs.Common.{◌++◌, length, get_or, reverse, ap, ◌∙◌, arith, length_push, slice_get-get_or, letter_before, Link}
use Rattle.image_minimal.proofs.laws.LinkWords.{SpellsLink-parent}
use Rattle.image_minimal.proofs.separation.write_word.Goals as goal

pub loop-place-preserved : goal.loop-place-preserved
loop-place-preserved c =
    let links = c.args.links.now in
    let place = c.loop-place.place in
    let default : Link = record { first = 0; second = 0; parent = 0; letter = 0 } in
    let link = get_or links place default in
    let inside = c.loop-place.invariant.within in
    let at = slice_get-get_or links place default inside in
    let earlier = c.requires.earlier place link c.loop-place-test.true at in
    record {
      within = omega arith;
      short = omega (arith, earlier, c.loop-place.invariant.short, ap length c.push_reserved-in-loop-place.ensures.items, length_push c.loop-place.word.items link.letter);
      capacity = c.push_reserved-in-loop-place.ensures.capacity ∙ c.loop-place.invariant.capacity;
      completes = λ w reaches.
          let (v, to, is) = c.loop-place.invariant.completes w reaches in
          let (u, before, splits) = SpellsLink-parent links place v to c.loop-place-test.true link at in
          (u, before, is ∙ ap (λ x. x ++ reverse c.loop-place.word.items) splits ∙ letter_before u c.loop-place.word.items _ link.letter c.push_reserved-in-loop-place.ensures.items);
    }
