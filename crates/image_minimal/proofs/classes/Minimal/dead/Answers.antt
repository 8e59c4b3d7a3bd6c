use Rattle.image_minimal.proofs.Common.{Some, sym, ap, ◌∙◌}
use Rattle.image_minimal.proofs.Indexes.{IsPlaceOf-one}
use Rattle.image_minimal.proofs.ClassSearches.{the_automaton}
use Rattle.image_minimal.proofs.classes.Minimal.dead.Goals as goal

pub returns-in-None : goal.returns-in-None
returns-in-None c m least = sym c.in-None.is ∙ IsPlaceOf-one _ _ _ _ c.place.ensures c.self.invariant.0.dead ∙ ap (λ a. a.dead) (the_automaton c.self.invariant.0 c.self.view_is least)

pub returns-in-Some : goal.returns-in-Some
returns-in-Some c m least = ap Some c.from.ensures ∙ sym c.in-Some.is ∙ IsPlaceOf-one _ _ _ _ c.place.ensures c.self.invariant.0.dead ∙ ap (λ a. a.dead) (the_automaton c.self.invariant.0 c.self.view_is least)
