use Rattle.image_minimal.proofs.Common.{◌*◌, ◌^◌, ArePartClosures}
use Rattle.image_minimal.proofs.closures.share.Given as goal

-- the sets of the first blocks are done
abbrev pub invariant-loop-block : goal.invariant-loop-block
invariant-loop-block l = ArePartClosures l.graph l.u (l.block * (2 * 2 ^ l.u)) l.closures

-- and the first sets of this block
abbrev pub invariant-loop-set : goal.invariant-loop-set
invariant-loop-set l = ArePartClosures l.graph l.u l.set l.closures
