use Rattle.std.proofs.Common.{◌≡◌, ◌<◌, [], ◌∷◌, ◌++◌, length, slice_index, Some, sym, ap, ◌∙◌, subst, arith}
use Rattle.word_image.proofs.Common.{length_push, get_or_from_slice_get, full_set, IsLeastWordOf}
use Rattle.search_laws.proofs.Common.{letter_before}
use Rattle.image_subsets.proofs.LeastWords.{IsLeastWordOf-parent, IsLeastWordOf-full}
use Rattle.image_subsets.proofs.family.Family.write_word.Goals as goal

pub loop-parent-preserved : goal.loop-parent-preserved
loop-parent-preserved c =
    let letters = c.loop-parent.word.items in
    let place = c.loop-parent.place in
    let more = c.push_reserved.ensures.items in
    let earlier : c.in-Some.parent < place = c.in-Some.ensures.earlier in
    let within : place < length c.args.self.now.sets = omega (arith, c.loop-parent.invariant.short) in
    record {
      short = omega (arith, c.loop-parent.invariant.short, ap length more, length_push letters c.in-Some.letter);
      least = λ r tree v first.
          let parent = tree.parents place (Some (c.in-Some.parent, c.in-Some.letter)) c.in-Some.ensures.parent in
          subst (IsLeastWordOf r (slice_index c.args.self.now.sets c.args.i)) (letter_before v letters _ c.in-Some.letter more)
          (c.loop-parent.invariant.least r tree (v ++ c.in-Some.letter ∷ []) (IsLeastWordOf-parent tree.rule tree.family within parent v first));
      capacity = c.push_reserved.ensures.capacity ∙ c.loop-parent.invariant.capacity;
    }

pub returns-clause-least : goal.returns-clause-least
returns-clause-least c r tree =
    let sets = c.args.self.now.sets in
    let root : c.loop-parent.place ≡ 0 = c.in_default.ensures.earlier in
    let full : slice_index sets c.loop-parent.place ≡ full_set r = ap (slice_index sets) root ∙ get_or_from_slice_get sets 0 (full_set r) 0 tree.starts in
    subst (IsLeastWordOf r (slice_index sets c.args.i)) (sym c.reverse.ensures.items)
    (c.loop-parent.invariant.least r tree [] (subst (λ set. IsLeastWordOf r set []) (sym full) (IsLeastWordOf-full r)))
