use Rattle.std.proofs.Common.{◌≡◌, Some, ap, ◌∙◌, slice_get}
use Rattle.word_image.proofs.Common.{slice_get-unique, slice_get_within}
use Rattle.least_walk.proofs.TreeLaws.{steps-place, no_walk-absent, no_walk-absent_all}
use Rattle.least_walk.proofs.tree.WalkTree.steps_to.Goals as goal

pub returns-in_err-place-clause-none : goal.returns-in_err-place-clause-none
returns-in_err-place-clause-none c = rw (c.from_residual.ensures, ← c.self.view_is) (no_walk-absent c.self.invariant (rw c.as_slice.ensures.items at c.in_err-place.ensures.none))

pub returns-in_err-place-clause-all : goal.returns-in_err-place-clause-all
returns-in_err-place-clause-all c = rw (c.from_residual.ensures, ← c.self.view_is) (no_walk-absent_all c.self.invariant (rw c.as_slice.ensures.items at c.in_err-place.ensures.none))

pub at-requires : goal.at-requires
at-requires c =
    let (x, at, same) = c.in_ok-place.ensures.found in
    rw c.from.ensures (slice_get_within c.self.inside.queue.now c.in_ok-place.place x (rw c.as_slice.ensures.items at at))

pub returns-clause-steps : goal.returns-clause-steps
returns-clause-steps c =
    let (x, at, same) = c.in_ok-place.ensures.found in
    let found : slice_get c.self.inside.queue.now c.from.result ≡ Some x = rw c.from.ensures (rw c.as_slice.ensures.items at at) in
    let pair = ap (λ y. y.pair) (slice_get-unique c.self.inside.queue.now c.from.result c.at.result x c.at.ensures found) ∙ same in
    rw (← c.self.view_is, ← pair, c.from-2.ensures) (steps-place c.from.result c.self.invariant c.at.result c.at.ensures).0
