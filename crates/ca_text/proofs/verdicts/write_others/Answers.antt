use Rattle.std.proofs.Common.{◌++◌, codes, decimal, arith}
use Rattle.ca_text.proofs.laws.Rows.{rows-next}
use Rattle.ca_text.proofs.verdicts.write_others.Goals as goal

pub loop-number-preserved : goal.loop-number-preserved
loop-number-preserved c = (
  rows-next (λ n. codes "," ++ decimal n) c.args.output.now c.args.numbers.now c.loop-number.number-index 0 c.loop-number-test.true c.loop-number.invariant.0 c.in_ok-write_other.ensures.appended,
  λ room. let few = c.in_ok-write_other.ensures.few (omega (arith, c.loop-number.invariant.1 room, room, c.loop-number-test.true)) in omega (arith, few.1, c.loop-number.invariant.1 room),
)
