use Rattle.std.proofs.Common.{refl, arith, rules}
use Rattle.word_image.proofs.Common.{IsWordBy-letters, IsWord-image, fewer_values, length-image-word_of}
use Rattle.rule_algebra.proofs.compositions.image_value.Goals as goal

pub value_by-requires-clause-word : goal.value_by-requires-clause-word
value_by-requires-clause-word c =
    let rule = c.k.ensures.rule in
    (_, IsWordBy-letters c.k.ensures.states refl (length-image-word_of rule c.args.n c.args.window) (IsWord-image rule _) (λ i a l h. search rules))

pub value_by-requires-clause-fits : goal.value_by-requires-clause-fits
value_by-requires-clause-fits c = grind (arith, fewer_values)

pub returns-clause-value : goal.returns-clause-value
returns-clause-value c = grind (arith, IsWordBy-letters, length-image-word_of, IsWord-image)
