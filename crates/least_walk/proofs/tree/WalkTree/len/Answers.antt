use Rattle.least_walk.proofs.TreeLaws.{All-pairs, Contains-walk}
use Rattle.least_walk.proofs.tree.WalkTree.len.Goals as goal

pub returns-clause-below : goal.returns-clause-below
returns-clause-below c = rw (← c.self.view_is) (All-pairs c.self.invariant)

pub returns-clause-all : goal.returns-clause-all
returns-clause-all c = rw (← c.self.view_is) (λ large w t walk. Contains-walk c.self.invariant large walk)
