use Rattle.std.proofs.Common.{ℕ, List, [], ◌∷◌, ◌++◌, subst}
use Rattle.word_image.proofs.Common.{IsLastSet}
use Rattle.debruijn.proofs.graph.Graph.step.Goals as goal

pub returns-clause-word : goal.returns-clause-word
returns-clause-word c = subst (λ r. (w : List ℕ) → IsLastSet r w c.args.set → IsLastSet r (w ++ c.args.a ∷ []) c.step.result) c.self.view_is c.step.ensures.word
