use Rattle.debruijn.proofs.graph.Graph.of.Goals as goal

pub invariant_of-result : goal.invariant_of-result
invariant_of-result c = let made = c.edge_rows.ensures in (made.rule, made.edges, record { tall = made.tall; wide = made.wide })
