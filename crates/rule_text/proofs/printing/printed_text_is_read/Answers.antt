use Rattle.rule_text.proofs.laws.Printed.{IsRuleText-printed_rule}
use Rattle.rule_text.proofs.printing.printed_text_is_read.Goals as goal

pub returns : goal.returns
returns c = IsRuleText-printed_rule
