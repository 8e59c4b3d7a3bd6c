use Rattle.rule_lists.proofs.laws.Calls.{one_rule}
use Rattle.rule_lists.proofs.theorems.one_rule_of_a_rank.Goals as goal

pub returns : goal.returns
returns c k m order q r h first second e = one_rule k m order q r h first second e
