use Rattle.std.proofs.Common.{rules, arith}
use Rattle.tail_config.proofs.laws.TailAnswers.{IsTailText-no_fault, one_fault, every_tail}
use Rattle.tail_config.proofs.texts.parse.Goals as goal

pub returns-in_err-parts-clause-every_tail : goal.returns-in_err-parts-clause-every_tail
returns-in_err-parts-clause-every_tail c = λ t good. absurd (IsTailText-no_fault good c.in_err-parts.ensures.fault)

pub returns-in_err-parts-clause-every_fault : goal.returns-in_err-parts-clause-every_fault
returns-in_err-parts-clause-every_fault c = grind (arith, one_fault)

pub returns-clause-every_tail : goal.returns-clause-every_tail
returns-clause-every_tail c = λ t good. every_tail c.in_ok-parts.ensures.parts good c.map_err.result (search rules) (search rules)

pub returns-clause-every_fault : goal.returns-clause-every_fault
returns-clause-every_fault c = λ f first. absurd (IsTailText-no_fault c.in_ok-parts.ensures.parts first)
