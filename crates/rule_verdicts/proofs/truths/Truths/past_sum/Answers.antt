use Rattle.std.proofs.Common.{refl, sym, ◌∙◌}
use Rattle.word_image.proofs.Common.{false≢true}
use Rattle.ring_laws.proofs.SameWeights.{IsConserving-own}
use Rattle.rule_text.specs.RuleTexts.{rule_of_table}
use Rattle.rule_verdicts.proofs.laws.Means.{some_letters, no}
use Rattle.rule_verdicts.proofs.truths.Truths.past_sum.Goals as goal

pub keeps_ends-requires : goal.keeps_ends-requires
keeps_ends-requires c = some_letters c.requires

pub returns-then-not-keeps_ends : goal.returns-then-not-keeps_ends
returns-then-not-keeps_ends c =
    let r = rule_of_table c.args.k c.args.m c.args.table.now in
    c.not_surjective.ensures r c.requires
    (λ every. false≢true (sym c.if-not-even.true ∙ c.may_be_surjective-even.ensures r c.requires refl refl every))
    (no (λ keep. false≢true (sym c.if-not-keeps_ends.true ∙ c.keeps_ends.ensures.conserving r c.requires refl refl ((IsConserving-own c.requires).0 keep))))
