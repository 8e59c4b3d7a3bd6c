use Rattle.std.proofs.Common.{◌∙◌, refl, sym, ap}
use Rattle.word_image.specs.declared.side.Side.TheVariants.{Right, Left}
use Rattle.word_image.proofs.Common.{LocalRule, AreWeights}
use Rattle.cert_values.proofs.Common.{Certificate, surjective_of, injective_of, side_of, sum_of}
use Rattle.certificate_laws.specs.WrittenCertificates.{HasWrittenParts}
use Rattle.certificate_laws.proofs.WrittenShapes.{IsShaped-written}
use Rattle.rule_verdicts.specs.Reports as found
use Rattle.rule_verdicts.proofs.laws.WrittenParts.{IsRankRow-row}
use Rattle.rule_verdicts.proofs.certificates.certificate.Goals as goal

-- what is made
abbrev made : goal.In_ok-row → Certificate
made c = record {
  version = c.args.version;
  rule = c.args.rule.now;
  surjective = surjective_of c.in_ok-surjective.surjective;
  injective = injective_of c.in_ok-injective.injective;
  right = side_of c.in_ok-right.right;
  left = side_of c.in_ok-left.left;
  conserving = sum_of c.in_ok-conserving.conserving;
  weights = c.args.weights.now;
  forward = c.in_ok-forward.forward;
  backward = c.in_ok-row.field-0;
}

-- the weights are those of a rule
are_weights : (c : goal.In_ok-row) → AreWeights (c.args.rule.now).states c.args.weights.now
are_weights c = record { each_letter = c.requires.weights; small = rw c.as_slice.ensures.weights at c.have_eight_bits.ensures }

-- the certificate that is made has the parts that are written for the rule
HasWrittenParts-made : (c : goal.In_ok-row) → HasWrittenParts c.args.version c.args.rule.now c.args.weights.now (made c)
HasWrittenParts-made c =
    let report = c.report_of_pairs-report.result in
    let pairs = c.of-pairs.ensures in
    let ranks = c.from_pairs-ranks.ensures ∙ pairs in
    let least = c.report_of_pairs-report.ensures.least in
    let sum = ap (λ (r : LocalRule). found.sum_of r report.conserving) (least.rule ∙ pairs) ∙ sym c.in_ok-conserving.ensures in
    record {
      version_is = refl;
      weights_are = refl;
      least = record {
        rule = refl;
        surjective = rw pairs at c.in_ok-surjective.ensures.orphan;
        injective = rw (← pairs, c.in_ok-injective.ensures) least.injective;
        right = rw (← pairs, c.in_ok-right.ensures.side) least.right;
        left = rw (← pairs, c.in_ok-left.ensures.side) least.left;
        conserving = rw (← pairs, ← sum) least.conserving;
      };
      list = rw pairs at c.in_ok-surjective.ensures.list;
      forward = IsRankRow-row Right ranks c.in_ok-forward.ensures.each_pair c.in_ok-forward.ensures.ranks;
      backward = IsRankRow-row Left ranks c.in_ok-row.ensures.each_pair c.in_ok-row.ensures.ranks;
    }

pub invariant_of-result : goal.invariant_of-result
invariant_of-result c = (
  rw c.of-pairs.ensures at (c.in_ok-right.ensures.over _ c.report_of_pairs-report.ensures.right),
  rw c.of-pairs.ensures at (c.in_ok-left.ensures.over _ c.report_of_pairs-report.ensures.left),
  IsShaped-written c.requires.version c.keeps_limits.ensures (are_weights c) (HasWrittenParts-made c),
)

pub returns-clause-weights : goal.returns-clause-weights
returns-clause-weights c = are_weights c

pub returns-clause-parts : goal.returns-clause-parts
returns-clause-parts c = HasWrittenParts-made c
