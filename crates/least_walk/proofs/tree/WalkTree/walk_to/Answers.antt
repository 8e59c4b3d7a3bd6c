use Rattle.std.proofs.Common.{length, ap, arith}
use Rattle.word_image.proofs.Common.{slice_get_within}
use Rattle.least_walk.proofs.Walking.{IsBackward-walking, length-walking-le}
use Rattle.least_walk.proofs.TreeLaws.{IsLeastWalkTo-steps, no_walk-absent, no_walk-absent_all}
use Rattle.least_walk.proofs.tree.WalkTree.walk_to.Goals as goal

pub returns-in_err-place-clause-walk : goal.returns-in_err-place-clause-walk
returns-in_err-place-clause-walk c = rw (c.from_residual.ensures, ← c.self.view_is) (no_walk-absent c.self.invariant (rw c.as_slice.ensures.items at c.in_err-place.ensures.none))

pub returns-in_err-place-clause-all : goal.returns-in_err-place-clause-all
returns-in_err-place-clause-all c = rw (c.from_residual.ensures, ← c.self.view_is) (no_walk-absent_all c.self.invariant (rw c.as_slice.ensures.items at c.in_err-place.ensures.none))

pub spell-requires-clause-most : goal.spell-requires-clause-most
spell-requires-clause-most c =
    omega (arith, slice_get_within c.self.inside.queue.now c.in_ok-place.place _ (rw c.as_slice.ensures.items at c.in_ok-place.ensures.found.1), ap length c.as_slice-2.ensures.items, ap length c.new-steps.ensures, length-walking-le c.self.invariant.ended.walking)

pub spell-requires-clause-backward : goal.spell-requires-clause-backward
spell-requires-clause-backward c = rw c.as_slice-2.ensures.items (IsBackward-walking c.self.invariant.ended.walking)

pub returns-clause-walk : goal.returns-clause-walk
returns-clause-walk c =
    let (x, at, same) = c.in_ok-place.ensures.found in
    rw (← c.self.view_is, ← same) (IsLeastWalkTo-steps c.self.invariant x (rw c.as_slice.ensures.items at at)
    (rw (c.as_slice-2.ensures.items, c.new-steps.ensures) at c.spell.ensures.spelled)).0

pub returns-clause-within : goal.returns-clause-within
returns-clause-within c =
    let (x, at, same) = c.in_ok-place.ensures.found in
    rw (← c.self.view_is) (IsLeastWalkTo-steps c.self.invariant x (rw c.as_slice.ensures.items at at)
    (rw (c.as_slice-2.ensures.items, c.new-steps.ensures) at c.spell.ensures.spelled)).1
