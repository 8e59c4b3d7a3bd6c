use Rattle.pair_rank.proofs.rows.rank_of.Goals as goal

pub returns : goal.returns
returns c =
    let nodes = c.nodes_of-first.ensures in
    rw (nodes.first, nodes.second, c.rule.ensures.value) at c.rank.ensures.rank
