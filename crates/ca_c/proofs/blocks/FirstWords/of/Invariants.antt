use Rattle.std.proofs.Common.{length}
use Rattle.ca_c.proofs.laws.FirstWords.{HasBegun}
use Rattle.ca_c.proofs.blocks.FirstWords.of.Given as goal

abbrev pub invariant-loop-rest : goal.invariant-loop-rest
invariant-loop-rest l = HasBegun l.block l.rest l.first

abbrev pub decreases-loop-rest : goal.decreases-loop-rest
decreases-loop-rest l = length l.rest
