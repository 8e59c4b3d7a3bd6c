use Rattle.std.proofs.Common.{arith}
use Rattle.word_image.proofs.laws.Values.{value-take_more, value-take-below}
use Rattle.word_image.proofs.local_rule.value_of.Goals as goal

pub overflow_mul-value : goal.overflow_mul-value
overflow_mul-value c =
    grind (arith, value-take-below)

pub overflow_add-value : goal.overflow_add-value
overflow_add-value c =
    grind (arith, value-take-below)

pub loop-letter-preserved : goal.loop-letter-preserved
loop-letter-preserved c = grind (arith, value-take_more)
