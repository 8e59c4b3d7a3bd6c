use Rattle.std.proofs.Common.{arith}
use Rattle.word_image.proofs.Common.{node_count}
use Rattle.pair_laws.proofs.Common.{IsBitSet-below}
use Rattle.tail_preimage.proofs.laws.Parts.{ArePeriods-end}
use Rattle.tail_preimage.proofs.periods.rounds.Goals as goal

pub returns : goal.returns
returns c = grind (arith, IsBitSet-below, node_count, ArePeriods-end)
