use Rattle.std.proofs.Common.{sym, ◌∙◌}
use Rattle.word_image.proofs.Common.{false≢true}
use Rattle.garden_laws.specs.Tables.{HasMean}
use Rattle.ring_laws.proofs.SameWeights.{IsConserving-own}
use Rattle.garden_laws.proofs.MeanTables.{HasMean-conserving}
use Rattle.rule_text.specs.RuleTexts.{rule_of_table}
use Rattle.rule_verdicts.proofs.laws.Means.{HasMean-surjective, no}
use Rattle.rule_verdicts.proofs.numbers.verdict_byte.Goals as goal

pub returns-then-not-is_mean : goal.returns-then-not-is_mean
returns-then-not-is_mean c =
    let rule = c.requires.rule in
    let other : ¬ HasMean c.args.k c.args.table.now = λ mean. false≢true (sym c.if-not-is_mean.true ∙ c.is_mean.ensures.1 (rw c.requires.total mean)) in
    record {
      truths = c.not_surjective.result;
      are = c.not_surjective.ensures (rule_of_table c.args.k c.args.m c.args.table.now) rule (λ every. other (HasMean-surjective rule every))
          (no (λ keep. other (HasMean-conserving rule ((IsConserving-own rule).0 keep))));
      is = c.byte.ensures;
    }
