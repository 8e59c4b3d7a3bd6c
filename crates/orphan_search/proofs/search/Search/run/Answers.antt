use Rattle.std.proofs.Common.{◌≡◌, ◌↔◌, subst}
use Rattle.word_image.proofs.Common.{IsSurjective}
use Rattle.orphan_search.specs.declared.search.Outcome.TheVariants.{Closed}
use Rattle.orphan_search.proofs.search.Search.run.Goals as goal

pub returns-clause-exactly : goal.returns-clause-exactly
returns-clause-exactly c = subst (λ r. (c.run_over.result ≡ Closed) ↔ IsSurjective r) c.of.ensures c.run_over.ensures.exactly
