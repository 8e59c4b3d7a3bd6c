use Rattle.std.proofs.Common.{subst, slice_index}
use Rattle.word_image.proofs.Common.{LocalRule}
use Rattle.certificate_laws.specs.LeastEvidence.{IsConservingPart}
use Rattle.rule_verdicts.specs.Reports.{sum_of}
use Rattle.rule_verdicts.proofs.laws.SideParts.{IsRightPart-answer, IsLeftPart-answer}
use Rattle.rule_verdicts.proofs.laws.Sums.{IsConservingPart-shown}
use Rattle.rule_verdicts.proofs.report.report_of_pairs.Goals as goal

pub returns-clause-least : goal.returns-clause-least
returns-clause-least c =
    let r = c.args.pairs.now in
    record {
      rule = c.rule-rule.ensures;
      surjective = rw c.graph.ensures at c.first_orphan.ensures;
      injective = c.injectivity_of.ensures r c.window_or_twins_over.ensures;
      right = IsRightPart-answer r c.right.result c.right.ensures;
      left = IsLeftPart-answer r c.left.result c.left.ensures;
      conserving = subst (λ (r : LocalRule). IsConservingPart (slice_index c.args.weights.now) r (sum_of c.rule-rule.result.now c.conserve.result)) c.rule-rule.ensures
          (IsConservingPart-shown (slice_index c.args.weights.now) c.conserve.result c.keeps_limits.ensures c.conserve.ensures.conserving c.conserve.ensures.shown);
    }
