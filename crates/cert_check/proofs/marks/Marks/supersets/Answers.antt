use Rattle.std.proofs.Common.{true≢false, inr, ⊎_elim, sym, ◌∙◌, arith}
use Rattle.cert_check.proofs.laws.Parts.{above_next}
use Rattle.cert_check.proofs.marks.Marks.supersets.Goals as goal

pub loop-number-preserved-then-not-is_above : goal.loop-number-preserved-then-not-is_above
loop-number-preserved-then-not-is_above c =
    above_next c.args.sets.now c.of-listed.result.rows c.loop-number.above.rows c.loop-number.above.rows c.loop-number.number (omega arith) c.of-listed.ensures c.loop-number.invariant
    (λ s. (inr, ⊎_elim (λ (same, test). absurd (true≢false (sym (c.is_above.ensures.1 test) ∙ c.if-not-is_above.true))) (λ old. old)))

pub loop-number-preserved : goal.loop-number-preserved
loop-number-preserved c =
    above_next c.args.sets.now c.of-listed.result.rows c.loop-number.above.rows c.mark.new.self.rows c.loop-number.number (omega arith) c.of-listed.ensures c.loop-number.invariant
    (grind arith)
