use Rattle.std.proofs.Common.{◌<◌, arith}
use Rattle.std.proofs.Math.Pow.{pow-lt}
use Rattle.word_image.proofs.Common.{one_shl, IsBitSet-pow}
use Rattle.tail_preimage.proofs.Rows.{AreRowsFilled-more}
use Rattle.tail_preimage.proofs.relations.identity.Goals as goal

pub loop-u-preserved : goal.loop-u-preserved
loop-u-preserved c =
    let u = c.loop-u.u in
    let rule = c.nodes-u-end.ensures.rule in
    let few : u < 16 = omega arith in
    AreRowsFilled-more c.from.result rule (omega arith) c.from.ensures c.loop-u.invariant
    (rw (one_shl u 16 few) (grind (arith, pow-lt, IsBitSet-pow)))
