use Rattle.std.proofs.Common.{arith, take_all}
use Rattle.word_image.proofs.Common.{sum_by-map-range_with_len_more, sum_by_more}
use Rattle.word_image.proofs.laws.RingSums.{sum_by-ring_image-start}
use Rattle.word_image.proofs.rings.keeps_sum.Goals as goal

pub loop-place-preserved : goal.loop-place-preserved
loop-place-preserved c = grind (arith, sum_by_more, sum_by-map-range_with_len_more)

pub returns : goal.returns
returns c = grind (arith, take_all, sum_by-ring_image-start)
