use Rattle.pair_rank.proofs.MostRank.{IsRank-apart, IsRank-most}
use Rattle.pair_rank.proofs.ranks.ranks_are_few.Goals as goal

pub returns-clause-few : goal.returns-clause-few
returns-clause-few c side r u v n rule = IsRank-apart side rule u v n

pub returns-clause-most : goal.returns-clause-most
returns-clause-most c side r u v n rule = IsRank-most side rule u v n
