use Rattle.pair_graph.specs.PairSets.{AreNodesKept, GoesOn}
use Rattle.pair_graph.proofs.pair_set.trimmed.Given as goal

-- the first rows are done
abbrev pub invariant-loop-u : goal.invariant-loop-u
invariant-loop-u l = AreNodesKept (GoesOn l.fn.side l.rule l.ends l.rows) l.rows l.u l.kept
