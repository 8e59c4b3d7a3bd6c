use Rattle.std.proofs.Common.{arith, length-take-le}
use Rattle.std.proofs.lemmas.List.{get_or-take}
use Rattle.word_image.proofs.Common.{cases_lt, false≢true, get_or_default}
use Rattle.rule_algebra.proofs.recolouring.is_recolouring.Goals as goal

pub returns-then-colour-k : goal.returns-then-colour-k
returns-then-colour-k c = grind (arith, false≢true, get_or-take, length-take-le)

pub loop-place-preserved : goal.loop-place-preserved
loop-place-preserved c a l = grind (arith, get_or-take, length-take-le, cases_lt)

pub returns : goal.returns
returns c = grind (arith, get_or_default)
