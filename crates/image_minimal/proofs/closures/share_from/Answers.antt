use Rattle.image_minimal.proofs.Common.{subst, arith, ArePartClosures}
use Rattle.image_minimal.proofs.laws.ClosureTables.{AreClosures-parts}
use Rattle.image_minimal.proofs.closures.share_from.Goals as goal

pub returns : goal.returns
returns c = AreClosures-parts (subst (λ n. ArePartClosures c.args.graph.now n 0 c.loop-u.closures) (omega (arith, c.nodes-u-end.ensures.nodes)) c.loop-u.invariant)
