use Rattle.pair_graph.proofs.PairLanes.{AreLanes}
use Rattle.pair_graph.proofs.pair_set.going_on.Given as goal

-- the first letters are followed
abbrev pub invariant-loop-a : goal.invariant-loop-a
invariant-loop-a l = AreLanes l.fn.side l.rule l.ends l.rows l.u l.a l.hits
