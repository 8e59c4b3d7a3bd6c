use Rattle.std.proofs.Common.{arith}
use Rattle.word_image.proofs.Common.{IsSetOf-same}
use Rattle.pair_laws.proofs.Common.{IsBitSet-below, IsSetOf-both}
use Rattle.tail_preimage.proofs.laws.Parts.{ArePeriods-row}
use Rattle.tail_preimage.proofs.room.starts.Goals as goal

pub returns : goal.returns
returns c =
    let row = ArePeriods-row c.requires.parts.1.left_periods c.args.spans.before (omega arith) in
    let rounds = c.rounds.ensures in
    let rears = c.sources-rears.ensures in
    IsSetOf-both c.loops.ensures (IsSetOf-same (λ v l. grind (arith, IsBitSet-below)) (rw c.from.ensures at c.union_of_rows-lefts.ensures))
