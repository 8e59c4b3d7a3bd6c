use Rattle.image_minimal.proofs.Common.{◌≡◌, ◌+◌, ◌*◌, ◌<◌, slice_get, slice_index, Some, ap, ◌∙◌, arith}
use Rattle.image_minimal.proofs.ClassSearches.{class_inside, the_automaton}
use Rattle.image_minimal.proofs.classes.Minimal.next.Goals as goal
use Rattle.image_minimal.proofs.classes.Minimal.next.Goals.{After-deref}

pub at-set-requires : goal.at-set-requires
at-set-requires c = class_inside c.self.invariant.0 c.self.view_is c.args.i c.requires.class

pub steps-steps-requires : goal.steps-steps-requires
steps-steps-requires c = omega (arith, c.self.invariant.0.below c.args.i (class_inside c.self.invariant.0 c.self.view_is c.args.i c.requires.class), c.at-set.ensures)

-- where the class stands that the least automaton has next
next_at : (c : After-deref)
    → slice_get c.self.inside.classes.sets (slice_index c.self.invariant.0.automaton.next (c.args.i * c.self.invariant.0.automaton.states + c.args.a)) ≡ Some (slice_index c.deref.result.now (slice_index c.steps-steps.result c.args.a))
next_at c =
    let below : c.args.a < c.self.inside.subsets.states = rw c.self.view_is c.requires.letter in
    rw c.deref.ensures.value
    (c.self.invariant.0.next c.args.i c.args.a c.at-set.result _ (class_inside c.self.invariant.0 c.self.view_is c.args.i c.requires.class) c.at-set.ensures below (c.steps-steps.ensures c.args.a below))

pub class_of-requires-clause-class : goal.class_of-requires-clause-class
class_of-requires-clause-class c = (_, next_at c)

pub returns : goal.returns
returns c m least = c.from.ensures ∙ c.class_of.ensures _ (next_at (goal.at.returns c).After-deref) ∙ ap (λ a. slice_index a.next (c.args.i * a.states + c.args.a)) (the_automaton c.self.invariant.0 c.self.view_is least)
