use Rattle.std.proofs.Common.{arith}
use Rattle.ca_text.proofs.laws.Decimals.{AreLeft-last, AreLeft-step, some_place}
use Rattle.ca_text.proofs.decimals.write_u32.Goals as goal

pub overflow_sub-place : goal.overflow_sub-place
overflow_sub-place c = some_place c.loop-left.invariant (omega arith)

pub bounds-bytes-place : goal.bounds-bytes-place
bounds-bytes-place c = omega (arith, some_place c.loop-left.invariant (omega arith), c.loop-left.invariant.within, c.requires.end)

pub loop-left-preserved : goal.loop-left-preserved
loop-left-preserved c = AreLeft-step c.loop-left.invariant c.loop-left-test.true (omega arith) (omega (arith, c.loop-left.invariant.within, c.requires.end))

pub overflow_sub-place-2 : goal.overflow_sub-place-2
overflow_sub-place-2 c = some_place c.loop-left.invariant (omega arith)

pub bounds-bytes-place-2 : goal.bounds-bytes-place-2
bounds-bytes-place-2 c = omega (arith, some_place c.loop-left.invariant (omega arith), c.loop-left.invariant.within, c.requires.end)

pub returns-clause-first : goal.returns-clause-first
returns-clause-first c = (AreLeft-last c.loop-left.invariant (omega (arith, c.loop-left-test.false)) (omega (arith, c.loop-left.invariant.within, c.requires.end))).0

pub returns-clause-digits : goal.returns-clause-digits
returns-clause-digits c = (AreLeft-last c.loop-left.invariant (omega (arith, c.loop-left-test.false)) (omega (arith, c.loop-left.invariant.within, c.requires.end))).1
