use Rattle.std.proofs.Common.{arith}
use Rattle.word_image.specs.declared.side.Side.TheVariants.{Right}
use Rattle.pair_rank.proofs.MostRank.{AreRanks-most}
use Rattle.pair_rank.proofs.ranks.Ranks.forward.Goals as goal

pub returns-clause-most : goal.returns-clause-most
returns-clause-most c = AreRanks-most Right c.self.inside.forward c.self.invariant.0 c.self.view_is c.self.invariant.1 c.from.result c.from-2.result (omega arith) (omega arith)
