use Rattle.std.proofs.Common.{refl, rules, arith}
use Rattle.word_image.proofs.Common.{IsWordBy-letters, IsWord-image, length-image-word_of}
use Rattle.kept_sums.proofs.fluxes.image_value.Goals as goal

pub value_by-requires-clause-word : goal.value_by-requires-clause-word
value_by-requires-clause-word c =
    let rule = c.k.ensures.rule in
    (_, IsWordBy-letters c.k.ensures.states refl (length-image-word_of rule c.args.range c.args.window) (IsWord-image rule _) (λ i a l h. search rules))

pub returns-clause-value : goal.returns-clause-value
returns-clause-value c = grind (arith, length-image-word_of, rules, IsWord-image)
