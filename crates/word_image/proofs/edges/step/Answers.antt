use Rattle.std.proofs.Common.{arith}
use Rattle.word_image.proofs.laws.LastSets.{IsLastSet-step}
use Rattle.word_image.proofs.edges.step.Goals as goal

pub returns-clause-step : goal.returns-clause-step
returns-clause-step c = grind arith

pub returns-clause-word : goal.returns-clause-word
returns-clause-word c w last = IsLastSet-step c.nodes.ensures.rule last c.requires.letter (returns-clause-step c)
