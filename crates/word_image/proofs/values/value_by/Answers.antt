use Rattle.std.proofs.lemmas.Grind.{common_steps}
use Rattle.std.proofs.Common.{ap, ◌∙◌, arith, take_all}
use Rattle.word_image.specs.LocalRules.{value}
use Rattle.word_image.proofs.laws.Values.{value-below, value-take_more, value-take-below}
use Rattle.word_image.proofs.values.value_by.Goals as goal

pub overflow_mul-value : goal.overflow_mul-value
overflow_mul-value g c = grind (arith, value-take-below)

pub overflow_add-value : goal.overflow_add-value
overflow_add-value g c = grind (arith, value-take-below)

pub loop-place-preserved : goal.loop-place-preserved
loop-place-preserved g c = grind (arith, value-take_more)

pub returns-clause-value : goal.returns-clause-value
returns-clause-value g c = λ w by. c.loop-place.invariant w by ∙ ap (value c.args.k) (take_all c.loop-place.place w (omega (arith, by.long)))

pub returns-clause-below : goal.returns-clause-below
returns-clause-below g c = grind (arith, common_steps, value-below)
