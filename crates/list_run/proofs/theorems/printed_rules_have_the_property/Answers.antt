use Rattle.list_run.proofs.laws.Printed.{printed_has, is_printed}
use Rattle.list_run.proofs.theorems.printed_rules_have_the_property.Goals as goal

pub returns-clause-printed : goal.returns-clause-printed
returns-clause-printed c property shape r letters rule l = printed_has property shape r letters rule l

pub returns-clause-all : goal.returns-clause-all
returns-clause-all c property shape q letters rule accepted states width offset has begins = is_printed property shape q letters accepted states width offset has begins
