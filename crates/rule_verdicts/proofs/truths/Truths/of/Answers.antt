use Rattle.std.proofs.Common.{sym, ◌∙◌}
use Rattle.word_image.proofs.Common.{false≢true}
use Rattle.ring_laws.proofs.SameWeights.{IsConserving-own}
use Rattle.rule_verdicts.proofs.laws.Means.{HasMean-surjective, no}
use Rattle.rule_verdicts.proofs.truths.Truths.of.Goals as goal

pub returns-then-not-has_mean : goal.returns-then-not-has_mean
returns-then-not-has_mean c =
    let rule = c.k.ensures.rule in
    let r = c.args.rule.now in
    c.not_surjective.ensures r rule
    (λ every. false≢true (sym c.if-not-has_mean.true ∙ c.has_mean.ensures.mean.1 (rw (c.k.ensures.states, c.table.ensures.table) (HasMean-surjective rule every))))
    (no (λ keep. false≢true (sym c.if-not-has_mean.true ∙ c.has_mean.ensures.conserving r rule (sym c.k.ensures.states) (sym c.table.ensures.table) ((IsConserving-own rule).0 keep))))
