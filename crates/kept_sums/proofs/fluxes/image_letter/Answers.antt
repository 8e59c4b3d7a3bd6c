use Rattle.std.proofs.Common.{arith, mod-lt}
use Rattle.word_image.proofs.Common.{get_or-image-word_of, one-le-pow, pow-le-pow_right, some_letter}
use Rattle.kept_sums.proofs.fluxes.image_letter.Goals as goal

pub pow-behind-requires : goal.pow-behind-requires
pow-behind-requires c = grind (arith, pow-le-pow_right)

pub nonzero_div-window : goal.nonzero_div-window
nonzero_div-window c = omega (arith, one-le-pow)

pub nonzero_rem-window : goal.nonzero_rem-window
nonzero_rem-window c = rw c.size.ensures.size (one-le-pow _ _ (some_letter c.k.ensures.rule))

pub at-requires : goal.at-requires
at-requires c = rw c.size.ensures.size (mod-lt _ (one-le-pow _ _ (some_letter c.k.ensures.rule)))

pub returns : goal.returns
returns c = grind (arith, get_or-image-word_of)
