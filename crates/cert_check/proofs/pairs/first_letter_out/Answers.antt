use Rattle.std.proofs.Common.{true≢false, sym, ◌∙◌, arith, below_more}
use Rattle.cert_conditions.proofs.Common.{StepIsListed}
use Rattle.cert_check.proofs.pairs.first_letter_out.Goals as goal

pub returns-then-not-leads_within : goal.returns-then-not-leads_within
returns-then-not-leads_within c pairs marked = record {
  within = omega (arith, c.k-b-end.ensures.states, c.loop-b-test.true);
  fails = λ step. true≢false (sym ((c.leads_within.ensures pairs marked).1 step) ∙ c.if-not-leads_within.true);
  earlier = c.loop-b.invariant pairs marked;
}

pub loop-b-preserved : goal.loop-b-preserved
loop-b-preserved c pairs marked =
    below_more (StepIsListed c.args.rule.now pairs c.args.pair c.args.a) c.loop-b.b (c.loop-b.invariant pairs marked) ((c.leads_within.ensures pairs marked).0 c.if-not-leads_within.false)

pub returns : goal.returns
returns c pairs marked b letter = c.loop-b.invariant pairs marked b (omega (arith, letter, c.k-b-end.ensures.states, c.loop-b-test.false))
