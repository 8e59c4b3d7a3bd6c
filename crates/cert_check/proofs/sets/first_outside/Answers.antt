use Rattle.std.proofs.Common.{true≢false, sym, ◌∙◌, subst, arith, below_more}
use Rattle.search_laws.proofs.Common.{IsSetOf-unique}
use Rattle.cert_conditions.proofs.Common.{IsKept, StepIsKept}
use Rattle.cert_check.proofs.sets.first_outside.Goals as goal

pub loop-letter-preserved : goal.loop-letter-preserved
loop-letter-preserved c =
    below_more (StepIsKept c.args.version c.args.rule.now c.args.sets.now c.args.set) c.loop-letter.letter c.loop-letter.invariant
    (c.step.result, c.step.ensures.step, c.is_kept.ensures.0 c.if-not-is_kept.false)

pub returns-then-not-is_kept : goal.returns-then-not-is_kept
returns-then-not-is_kept c = record {
  within = omega arith;
  fails = λ (after, step, kept).
      absurd (true≢false (sym (c.is_kept.ensures.1 (subst (IsKept c.args.version c.args.sets.now) (IsSetOf-unique step c.step.ensures.step) kept)) ∙ c.if-not-is_kept.true));
  earlier = c.loop-letter.invariant;
}
