use Rattle.std.proofs.Common.{arith, below_more}
use Rattle.cert_conditions.proofs.Common.{EachBelow, StepIsListed}
use Rattle.cert_check.proofs.pairs.first_step_out.Goals as goal

pub returns-in-Some : goal.returns-in-Some
returns-in-Some c pairs marked =
    let breach = c.in-Some.ensures pairs marked in
    record {
      first = record {
        within = omega (arith, c.k-a-end.ensures.states, c.loop-a-test.true);
        fails = λ all. breach.fails (all c.in-Some.b breach.within);
        earlier = c.loop-a.invariant pairs marked;
      };
      second = breach;
    }

pub loop-a-preserved : goal.loop-a-preserved
loop-a-preserved c pairs marked =
    below_more (λ a. EachBelow c.args.rule.now.states (StepIsListed c.args.rule.now pairs c.args.pair a)) c.loop-a.a (c.loop-a.invariant pairs marked) (c.in_default.ensures pairs marked)

pub returns : goal.returns
returns c pairs marked a letter = c.loop-a.invariant pairs marked a (omega (arith, letter, c.k-a-end.ensures.states, c.loop-a-test.false))
