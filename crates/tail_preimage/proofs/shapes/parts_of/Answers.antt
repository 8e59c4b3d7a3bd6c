use Rattle.std.proofs.Common.{arith}
use Rattle.tail_preimage.proofs.Rows.{IsRelation-same}
use Rattle.tail_preimage.proofs.shapes.parts_of.Goals as goal

pub returns-clause-parts : goal.returns-clause-parts
returns-clause-parts c =
    let left = IsRelation-same (λ u v l k. (((c.relation.ensures.relation.rows v k).nodes u l).0, ((c.relation.ensures.relation.rows v k).nodes u l).1)) c.reversed.ensures in
    grind arith
