use Rattle.pair_rank.proofs.Tables.{IsGiven}
use Rattle.pair_rank.proofs.rounds.give_rank.Given as goal

-- the first nodes of the set have the rank, and nothing else has changed
abbrev pub invariant-loop-v : goal.invariant-loop-v
invariant-loop-v l = IsGiven l.set l.u l.n l.v l.initial.ranks l.ranks
