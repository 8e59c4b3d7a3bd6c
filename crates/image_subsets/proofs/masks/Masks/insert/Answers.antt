use Rattle.std.proofs.Common.{◌≡◌, ℕ, ◌%◌, ◌↔◌, ◌<◌, List, length, Bool, false, IsTrue, Contains, refl, arith, sym, ◌∙◌, true≢false}
use Rattle.word_image.proofs.Common.{get_or_default}
use Rattle.image_subsets.specs.Marks.{IsSetMarked}
use Rattle.image_subsets.specs.Masks.{AreMembers}
use Rattle.image_subsets.proofs.MaskLists.{AreMembers-push, few_before_new}
use Rattle.image_subsets.proofs.masks.Masks.insert.Goals as goal

-- a set that isn't marked isn't in the list
absent : (sets rows now : List ℕ) (set : ℕ) (marked : Bool) → AreMembers sets rows → set < 65536
    → now ≡ rows → (IsTrue marked ↔ IsSetMarked now set) → marked ≡ false → ¬ Contains sets set
absent sets rows now set marked h small same says missing has = true≢false (sym (says.1 (rw same ((h.marked set small).1 has))) ∙ missing)

pub push_reserved-requires : goal.push_reserved-requires
push_reserved-requires c =
    let h = c.self.invariant.1 in
    let new = absent _ _ _ _ _ h c.ranges.set.fits c.deref.ensures.value c.is_marked.ensures c.if-is_marked.false in
    omega (arith, few_before_new h c.args.set c.ranges.set.fits new, c.self.invariant.0)

pub invariant_of-self : goal.invariant_of-self
invariant_of-self c =
    let h = c.self.invariant.1 in
    let new = absent _ _ _ _ _ h c.ranges.set.fits c.deref.ensures.value c.is_marked.ensures c.if-is_marked.false in
    let inside : c.from.result < length c.self.inside.members.items = omega (arith, c.from.ensures, c.ranges.set.fits, h.long) in (
      omega (arith, c.self.invariant.0, c.push_reserved.ensures.capacity),
      rw (c.push_reserved.ensures.items, c.index_mut.ensures.value, get_or_default c.self.inside.members.items c.from.result c.index_mut.result.now 0 inside)
          (AreMembers-push h c.args.set c.from.result (c.args.set % 64) c.from.ensures refl c.ranges.set.fits new),
    )
