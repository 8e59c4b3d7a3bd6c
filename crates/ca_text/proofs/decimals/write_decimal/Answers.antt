use Rattle.std.proofs.Common.{arith}
use Rattle.ca_text.proofs.laws.Decimals.{AreLeft-step, some_place}
use Rattle.ca_text.proofs.decimals.write_decimal.Goals as goal

pub overflow_sub-place : goal.overflow_sub-place
overflow_sub-place c = some_place c.loop-left.invariant (omega arith)

pub bounds-bytes-place : goal.bounds-bytes-place
bounds-bytes-place c = omega (arith, some_place c.loop-left.invariant (omega arith), c.loop-left.invariant.within, c.requires.end)

pub loop-left-preserved : goal.loop-left-preserved
loop-left-preserved c = AreLeft-step c.loop-left.invariant (omega (arith, c.loop-left-test.true)) (omega arith) (omega (arith, c.loop-left.invariant.within, c.requires.end))
