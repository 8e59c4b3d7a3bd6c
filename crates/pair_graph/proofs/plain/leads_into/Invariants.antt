use Rattle.std.proofs.Common.{ℕ, ◌<◌}
use Rattle.pair_graph.specs.PairSets.{LeadsIntoBy}
use Rattle.pair_graph.proofs.plain.leads_into.Given as goal

-- none of the first letters leads into the set
abbrev pub invariant-loop-a : goal.invariant-loop-a
invariant-loop-a l = (a : ℕ) → a < l.a → ¬ LeadsIntoBy l.side l.pairs l.set l.p a
