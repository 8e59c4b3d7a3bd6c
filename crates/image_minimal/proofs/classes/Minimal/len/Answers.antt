use Rattle.image_minimal.proofs.Common.{sym, ap, ◌∙◌}
use Rattle.image_minimal.proofs.ClassSearches.{the_automaton}
use Rattle.image_minimal.proofs.classes.Minimal.len.Goals as goal

pub returns-clause-len : goal.returns-clause-len
returns-clause-len c m least = c.len.ensures.len ∙ sym c.self.invariant.0.long ∙ ap (λ a. a.classes) (the_automaton c.self.invariant.0 c.self.view_is least)
