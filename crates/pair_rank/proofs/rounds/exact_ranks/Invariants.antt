use Rattle.pair_rank.proofs.TrimmedSets.{AreTogether}
use Rattle.pair_rank.proofs.Tables.{AreRanksSoFar}
use Rattle.pair_rank.proofs.rounds.exact_ranks.Given as goal

-- the set has the pairs that go on for n, and the others have their ranks
abbrev pub invariant-loop-n : goal.invariant-loop-n
invariant-loop-n l = record {
  pairs : AreTogether l.fn.side l.pairs l.n l.set;
  ranks : AreRanksSoFar l.fn.side l.pairs l.n l.ranks;
}
