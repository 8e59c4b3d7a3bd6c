use Rattle.welch_index.proofs.FirstFewest.{IsFewestLast-found}
use Rattle.welch_index.proofs.fewest.Search.run_over.Goals as goal

pub returns-clause-fewest : goal.returns-clause-fewest
returns-clause-fewest c =
    let most = c.fewest_possible.ensures in
    let found = c.find-nodes.ensures in
    IsFewestLast-found most.most most.surjective found.set found.fewest found.first
