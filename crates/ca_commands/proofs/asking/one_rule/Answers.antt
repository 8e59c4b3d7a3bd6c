use Rattle.ca_commands.proofs.laws.Asking.{only_rule}
use Rattle.ca_commands.proofs.asking.one_rule.Goals as goal

pub returns-in-Some : goal.returns-in-Some
returns-in-Some g c = only_rule c.args.name c.rule_operand.result c.in-Some.ensures c.requires.one (rw c.requires.none tt) c.rule_operand.ensures
