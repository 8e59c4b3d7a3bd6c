use Rattle.std.proofs.Common.{◌≤◌, true≢false, sym, ◌∙◌, subst, arith, below_more}
use Rattle.word_image.proofs.Common.{full_set}
use Rattle.search_laws.proofs.Common.{IsSetOf-unique}
use Rattle.cert_conditions.proofs.Common.{IsKept, StepIsKept}
use Rattle.cert_check.proofs.sets.first_not_kept.Goals as goal

pub loop-letter-preserved : goal.loop-letter-preserved
loop-letter-preserved c version sets marked =
    let small : c.step.result ≤ full_set c.args.rule.now = let within = c.step.ensures.step.within in omega arith in
    below_more (StepIsKept version c.args.rule.now sets c.args.set) c.loop-letter.letter (c.loop-letter.invariant version sets marked)
    (c.step.result, c.step.ensures.step, (marked c.step.result small).0 (c.has.ensures.0 c.if-not-has.false))

pub returns-then-not-has : goal.returns-then-not-has
returns-then-not-has c version sets marked =
    let small : c.step.result ≤ full_set c.args.rule.now = let within = c.step.ensures.step.within in omega arith in
    record {
      within = omega arith;
      fails = λ (after, step, kept).
          absurd (true≢false (sym (c.has.ensures.1 ((marked c.step.result small).1 (subst (IsKept version sets) (IsSetOf-unique step c.step.ensures.step) kept))) ∙ c.if-not-has.true));
      earlier = c.loop-letter.invariant version sets marked;
    }
