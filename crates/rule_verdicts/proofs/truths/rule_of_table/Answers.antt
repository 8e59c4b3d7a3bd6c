use Rattle.std.proofs.Common.{refl, rules}
use Rattle.word_image.proofs.Common.{IsRuleBy-entries}
use Rattle.rule_verdicts.proofs.truths.rule_of_table.Goals as goal

pub returns : goal.returns
returns c = c.from_fn.ensures _ (IsRuleBy-entries c.requires refl refl refl (λ v a l h. search rules))
