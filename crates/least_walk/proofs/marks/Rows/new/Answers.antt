use Rattle.word_image.proofs.Common.{second_of}
use Rattle.pair_laws.proofs.Common.{HasBit-none}
use Rattle.least_walk.specs.Marks.{row_of, pair_part}
use Rattle.least_walk.proofs.marks.Rows.new.Goals as goal

pub returns : goal.returns
returns c r t = HasBit-none 32 (row_of r t) (second_of r (pair_part r t))
