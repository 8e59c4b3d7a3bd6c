use Rattle.std.proofs.Common.{Contains}
use Rattle.rule_lists.proofs.RuledOut.{RulesOutClosing-endless}
use Rattle.rule_lists.proofs.theorems.fixed_endless_first_pair_forbids_closing.Goals as goal

pub returns : goal.returns
returns c side r s letters on w a rule endless first h = RulesOutClosing-endless side r s letters (Contains on) w a rule endless first h
