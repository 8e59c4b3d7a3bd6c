use Rattle.word_image.proofs.Common.{IsBitSet-full, IsSetOf-same}
use Rattle.tail_preimage.proofs.laws.Parts.{ArePeriods-end, ArePeriods-row}
use Rattle.tail_preimage.proofs.periods.open.Goals as goal

pub returns : goal.returns
returns c =
    let h = c.requires.periods in
    let row = ArePeriods-row h c.args.n c.requires.few in
    IsSetOf-same (λ u l. (
      (λ (v, steps, bit). (v, (row u v l).0 steps)),
      (λ (v, steps). (v, (row u v l).1 steps, rw c.full.ensures.set (IsBitSet-full c.args.graph.now v (ArePeriods-end h l steps)))),
    )) (rw c.from.ensures at c.sources.ensures)
