use Rattle.pair_rank.proofs.Tables.{IsNoted}
use Rattle.pair_rank.proofs.rounds.note_fallen.Given as goal

-- what has fallen of the first rows has the rank, and nothing else has changed
abbrev pub invariant-loop-u : goal.invariant-loop-u
invariant-loop-u l = IsNoted l.nodes l.set l.after l.n l.u l.initial.ranks l.ranks
