use Rattle.std.proofs.Common.{◌∙◌, refl, sym}
use Rattle.word_image.proofs.Common.{false≢true}
use Rattle.cert_conditions.proofs.Common.{both_true}
use Rattle.rule_verdicts.proofs.truths.verdicts_of.Goals as goal

pub returns : goal.returns
returns c =
    let same = c.from_pairs-endless.ensures ∙ c.from_graph.ensures ∙ c.of-graph.ensures in
    let right = rw same at c.is_right_closing.ensures in
    let left = rw same at c.is_left_closing.ensures in
    record {
      surjective = ((λ _. rw c.of-graph.ensures at (c.is_surjective.ensures.surjective.0 c.if-not-is_surjective.false)), (λ _. refl));
      injective = rw same at c.is_injective.ensures.injective;
      right = right;
      left = left;
      open_ = both_true _ _ right left;
      conserving = c.keeps_sums-conserving.ensures.sums;
    }

pub returns-then-not-may_be_surjective : goal.returns-then-not-may_be_surjective
returns-then-not-may_be_surjective c =
    c.not_surjective.ensures c.args.rule.now c.keeps_sums-conserving.ensures.rule
    (λ every. false≢true (sym c.if-not-may_be_surjective.true ∙ c.requires every))
    c.keeps_sums-conserving.ensures.sums

pub returns-then-not-is_surjective : goal.returns-then-not-is_surjective
returns-then-not-is_surjective c =
    c.not_surjective-then-not-is_surjective.ensures c.args.rule.now c.keeps_sums-conserving.ensures.rule
    (λ every. false≢true (sym c.if-not-is_surjective.true ∙ c.is_surjective.ensures.surjective.1 (rw c.of-graph.ensures every)))
    c.keeps_sums-conserving.ensures.sums
