use Rattle.std.proofs.Common.{arith}
use Rattle.cert_check.proofs.pairs.first_leaving.Goals as goal

pub returns-in-Some : goal.returns-in-Some
returns-in-Some c =
    let leaving = c.in-Some.ensures c.args.pairs.now c.of-listed.ensures in (
      record {
        within = c.loop-place-test.true;
        fails = λ all. leaving.first.fails (all c.in-Some.letters.0 leaving.first.within);
        earlier = c.loop-place.invariant.so_far;
      },
      leaving,
    )

pub loop-place-preserved : goal.loop-place-preserved
loop-place-preserved c =
    let r = c.args.rule.now in
    let pairs = c.args.pairs.now in
    let inv = c.loop-place.invariant in
    let here = c.in_default.ensures pairs c.of-listed.ensures in
    grind arith
