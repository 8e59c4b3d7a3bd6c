use Rattle.std.proofs.Common.{arith, append_assoc, length-append}
use Rattle.tail_preimage.proofs.laws.Stretches.{length-repeat, repeat-more}
use Rattle.tail_preimage.proofs.words.append_copies.Goals as goal

pub append-requires : goal.append-requires
append-requires c = grind (arith, length-append, length-repeat)

pub loop-preserved : goal.loop-preserved
loop-preserved c = grind (arith, append_assoc, repeat-more)
