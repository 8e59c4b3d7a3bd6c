use Rattle.pair_rank.proofs.ranks.Ranks.rank.Goals as goal

pub returns-in-Right-clause-rank : goal.returns-in-Right-clause-rank
returns-in-Right-clause-rank c = rw c.in-Right.is c.forward.ensures.rank

pub returns-in-Left-clause-rank : goal.returns-in-Left-clause-rank
returns-in-Left-clause-rank c = rw c.in-Left.is c.backward.ensures.rank
