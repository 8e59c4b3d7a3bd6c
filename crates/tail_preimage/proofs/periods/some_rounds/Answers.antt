use Rattle.word_image.proofs.Common.{IsUnion-take}
use Rattle.tail_preimage.proofs.periods.some_rounds.Goals as goal

pub loop-n-preserved : goal.loop-n-preserved
loop-n-preserved c = let here = c.rounds-set.ensures in IsUnion-take c.loop-n.invariant here.within here.nodes
