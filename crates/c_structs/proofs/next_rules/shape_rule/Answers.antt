use Rattle.std.proofs.Common.{[], ap, arith, rules}
use Rattle.rule_lists.proofs.laws.Filled.{IsRuleBy-table_rule}
use Rattle.c_structs.proofs.next_rules.shape_rule.Goals as goal

pub from_fn-requires-clause-rule : goal.from_fn-requires-clause-rule
from_fn-requires-clause-rule c = (_, IsRuleBy-table_rule [] c.requires (λ v l. omega (arith, c.requires.least_states)) (λ v a l h. search rules))

pub returns : goal.returns
returns c =
    let made = c.from_fn.ensures _ (IsRuleBy-table_rule [] c.requires (λ v l. omega (arith, c.requires.least_states)) (λ v a l h. search rules)) in
    record { states = ap (λ r. r.states) made; width = ap (λ r. r.width) made; offset = ap (λ r. r.offset) made }
