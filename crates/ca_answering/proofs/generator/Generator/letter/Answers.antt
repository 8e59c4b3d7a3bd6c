use Rattle.std.proofs.Common.{◌*◌, ap, ◌∙◌}
use Rattle.word_image.proofs.Common.{mod-add-mod}
use Rattle.ca_questions.specs.Samples.{next_state}
use Rattle.ca_answering.proofs.generator.Generator.letter.Goals as goal

pub returns-clause-state : goal.returns-clause-state
unfolding next_state
returns-clause-state c = mod-add-mod (c.self.inside.state * 6364136223846793005) 18446744073709551616 1442695040888963407 ∙ ap next_state c.self.view_is
