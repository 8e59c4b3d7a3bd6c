use Rattle.std.proofs.Common.{arith}
use Rattle.word_image.proofs.Common.{pair_count_pos}
use Rattle.cert_format.proofs.evidence.last_pair.Goals as goal

pub overflow_sub-result : goal.overflow_sub-result
overflow_sub-result c = omega (arith, c.pairs.ensures.count, pair_count_pos c.pairs.ensures.rule)

pub returns : goal.returns
returns c = omega (arith, c.pairs.ensures.count, pair_count_pos c.pairs.ensures.rule)
