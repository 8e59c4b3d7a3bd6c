use mathlib.Core.Logic.Iff.{symm as iff_sym, trans as iff_then}
use Rattle.std.proofs.Common.{◌↔◌, IsTrue}
use Rattle.word_image.proofs.Common.{LocalRule}
use Rattle.tail_config.proofs.Common.{IsRightClosing, IsLeftClosing}
use Rattle.cert_conditions.proofs.Common.{both_true}
use Rattle.ca_answering.proofs.class_tally.member_truths.Goals as goal
use Rattle.ca_answering.proofs.class_tally.member_truths.Goals.{then-mirrored, else-mirrored}

pub returns-clause-truths : goal.returns-clause-truths
returns-clause-truths c g one are =
    let r : LocalRule = c.args.rule.now in
    let sides : (IsTrue c.if-mirrored.right.0 ↔ IsRightClosing r) × (IsTrue c.if-mirrored.right.1 ↔ IsLeftClosing r) =
    elim c.if-mirrored.branch [
      | then-mirrored w ↦
          rw w.right-is (iff_then are.left (iff_sym (one.right_mirrored w.if-mirrored.true)), iff_then are.right (iff_sym (one.left_mirrored w.if-mirrored.true)))
      | else-mirrored w ↦
          rw w.right-is (iff_then are.right (iff_sym (one.right w.if-mirrored.false)), iff_then are.left (iff_sym (one.left w.if-mirrored.false)))
    ] in record {
      surjective = iff_then are.surjective (iff_sym one.surjective);
      injective = iff_then are.injective (iff_sym one.injective);
      right = sides.0;
      left = sides.1;
      open_ = both_true _ _ sides.0 sides.1;
      conserving = c.keeps_sums.ensures.sums;
    }
