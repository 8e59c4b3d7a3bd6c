use Rattle.std.proofs.Common.{false}
use Rattle.garden_laws.proofs.Preinjective.{IsSurjective-injective, IsSurjective-right_closing, IsSurjective-left_closing}
use Rattle.cert_conditions.proofs.Common.{both_true}
use Rattle.rule_verdicts.proofs.laws.Means.{no}
use Rattle.rule_verdicts.proofs.truths.Truths.not_surjective.Goals as goal

pub returns : goal.returns
returns c r rule lacks keep =
    let right = no (λ closing. lacks (IsSurjective-right_closing rule closing)) in
    let left = no (λ closing. lacks (IsSurjective-left_closing rule closing)) in
    record {
      surjective = no lacks;
      injective = no (λ injective. lacks (IsSurjective-injective rule injective));
      right = right;
      left = left;
      open_ = both_true false false right left;
      conserving = keep;
    }
