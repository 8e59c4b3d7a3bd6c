use Rattle.std.proofs.Common.{arith, mod-lt}
use Rattle.word_image.proofs.Common.{fewer_values, get_or-image-word_of, one-le-pow, some_letter}
use Rattle.rule_algebra.proofs.compositions.image_letter.Goals as goal

pub pow-behind-requires : goal.pow-behind-requires
pow-behind-requires c = grind (arith, fewer_values)

pub nonzero_div-window : goal.nonzero_div-window
nonzero_div-window c = grind (arith, one-le-pow, some_letter)

pub nonzero_rem-window : goal.nonzero_rem-window
nonzero_rem-window c = grind (arith, one-le-pow, some_letter)

pub at-requires : goal.at-requires
at-requires c = grind (arith, mod-lt, one-le-pow, some_letter)

pub returns : goal.returns
returns c = grind (arith, get_or-image-word_of)
