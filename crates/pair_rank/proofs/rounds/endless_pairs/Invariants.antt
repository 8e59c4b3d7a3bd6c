use Rattle.pair_rank.proofs.TrimmedSets.{AreTogether}
use Rattle.pair_rank.proofs.rounds.endless_pairs.Given as goal

-- the set has the pairs that go on for n
abbrev pub invariant-loop-n : goal.invariant-loop-n
invariant-loop-n l = AreTogether l.fn.side l.pairs l.n l.set
