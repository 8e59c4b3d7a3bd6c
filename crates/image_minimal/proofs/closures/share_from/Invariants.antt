use Rattle.image_minimal.proofs.Common.{ArePartClosures}
use Rattle.image_minimal.proofs.closures.share_from.Given as goal

-- the first nodes are done
abbrev pub invariant-loop-u : goal.invariant-loop-u
invariant-loop-u l = ArePartClosures l.graph l.u 0 l.closures
