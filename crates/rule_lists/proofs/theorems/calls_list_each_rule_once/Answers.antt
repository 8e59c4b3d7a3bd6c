use Rattle.rule_lists.proofs.laws.Calls.{AreListed-all}
use Rattle.rule_lists.proofs.theorems.calls_list_each_rule_once.Goals as goal

pub returns : goal.returns
returns c property k m fixed order rules h all = AreListed-all property k m fixed order rules h all
