use Rattle.std.proofs.Common.{◌≡◌, ℕ, ◌<◌, [], ◌∷◌, ◌++◌, List, length, get_or, slice_get, Some, None, Option, sym, ap, ◌∙◌, subst, arith}
use Rattle.word_image.proofs.Common.{length_push, slice_get-get_or}
use Rattle.search_laws.proofs.Common.{TreeSpells, Root, Branch, letter_before}
use Rattle.image_subsets.proofs.smallest.write_letters.Goals as goal

-- the parent stands in the list
parent_at : (parents : List (Option (ℕ × ℕ))) (i : ℕ) (way : Option (ℕ × ℕ)) → i < length parents → get_or parents i None ≡ way → slice_get parents i ≡ Some way
parent_at parents i way below at = slice_get-get_or parents i None below ∙ ap Some at

pub push_reserved-requires : goal.push_reserved-requires
push_reserved-requires c =
    let h = c.loop-place.invariant in
    let at = parent_at c.args.parents.now c.loop-place.place (Some (c.in-Some.parent, c.in-Some.letter)) h.inside c.in-Some.is in
    let earlier : c.in-Some.parent < c.loop-place.place = c.requires.earlier c.loop-place.place (Some (c.in-Some.parent, c.in-Some.letter)) at in
    omega (arith, earlier, h.short, c.requires.room, h.capacity)

pub loop-place-smaller : goal.loop-place-smaller
loop-place-smaller c =
    let at = parent_at c.args.parents.now c.loop-place.place (Some (c.in-Some.parent, c.in-Some.letter)) c.loop-place.invariant.inside c.in-Some.is in
    let earlier : c.in-Some.parent < c.loop-place.place = c.requires.earlier c.loop-place.place (Some (c.in-Some.parent, c.in-Some.letter)) at in
    omega (arith, earlier, c.from-place.ensures)

pub loop-place-preserved : goal.loop-place-preserved
loop-place-preserved c =
    let h = c.loop-place.invariant in
    let place = c.loop-place.place in
    let letters = c.loop-place.word.items in
    let more = c.push_reserved.ensures.items in
    let way : Option (ℕ × ℕ) = Some (c.in-Some.parent, c.in-Some.letter) in
    let at = parent_at c.args.parents.now place way h.inside c.in-Some.is in
    let earlier : c.in-Some.parent < place = c.requires.earlier place way at in
    record {
      short = omega (arith, h.short, ap length more, length_push letters c.in-Some.letter, earlier, c.from-place.ensures);
      inside = omega (arith, earlier, h.inside, c.from-place.ensures);
      spelled = λ tree ways v first.
          let (x, later, stands, from, by) = ways place way at in
          let start : TreeSpells tree x.parent v = subst (λ p. TreeSpells tree p v) (c.from-place.ensures ∙ sym from) first in
          let longer : TreeSpells tree place (v ++ c.in-Some.letter ∷ []) = subst (λ a. TreeSpells tree place (v ++ a ∷ [])) by (Branch place x v later stands start) in
          subst (TreeSpells tree c.args.i) (letter_before v letters _ c.in-Some.letter more) (h.spelled tree ways (v ++ c.in-Some.letter ∷ []) longer);
      capacity = c.push_reserved.ensures.capacity ∙ h.capacity;
    }

pub returns-clause-spelled : goal.returns-clause-spelled
returns-clause-spelled c tree ways =
    let h = c.loop-place.invariant in
    let root : c.loop-place.place ≡ 0 = c.requires.earlier c.loop-place.place None (parent_at c.args.parents.now c.loop-place.place None h.inside c.in_default.is) in
    subst (TreeSpells tree c.args.i) (sym c.reverse.ensures.items)
    (h.spelled tree ways [] (subst (λ p. TreeSpells tree p []) (sym root) Root))
