use Rattle.std.proofs.Common.{◌<◌, arith}
use Rattle.word_image.proofs.Common.{IsSetOf-same}
use Rattle.pair_laws.proofs.Common.{IsBitSet-shl}
use Rattle.tail_preimage.proofs.Rows.{AreRowsFilled-more}
use Rattle.tail_preimage.proofs.relations.reversed.Goals as goal

pub loop-u-preserved : goal.loop-u-preserved
loop-u-preserved c =
    let u = c.loop-u.u in
    let table = c.args.relation.now in
    let rule = c.nodes-u-end.ensures.rule in
    let few : u < 16 = omega arith in
    AreRowsFilled-more c.from.result rule (omega arith) c.from.ensures c.loop-u.invariant
    (IsSetOf-same (λ v _. grind (arith, IsBitSet-shl)) c.sources.ensures)
