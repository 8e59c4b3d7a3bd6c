use Rattle.c_structs.proofs.table_verdicts.RuleVerdicts.of.Goals as goal

pub returns-clause-are_true : goal.returns-clause-are_true
returns-clause-are_true c = c.of-truths.ensures
