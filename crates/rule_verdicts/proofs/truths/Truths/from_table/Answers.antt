use Rattle.std.proofs.Common.{sym, ◌∙◌}
use Rattle.word_image.proofs.Common.{false≢true}
use Rattle.ring_laws.proofs.SameWeights.{IsConserving-own}
use Rattle.garden_laws.proofs.MeanTables.{HasMean-conserving}
use Rattle.rule_text.specs.RuleTexts.{rule_of_table}
use Rattle.rule_verdicts.proofs.laws.Means.{HasMean-surjective, no}
use Rattle.rule_verdicts.proofs.truths.Truths.from_table.Goals as goal

pub returns-then-not-has_mean : goal.returns-then-not-has_mean
returns-then-not-has_mean c =
    let r = rule_of_table c.args.k c.args.m c.args.table.now in
    c.not_surjective.ensures r c.requires
    (λ every. false≢true (sym c.if-not-has_mean.true ∙ c.has_mean.ensures.mean.1 (HasMean-surjective c.requires every)))
    (no (λ keep. false≢true (sym c.if-not-has_mean.true ∙ c.has_mean.ensures.mean.1 (HasMean-conserving c.requires ((IsConserving-own c.requires).0 keep)))))
