use Rattle.std.proofs.Common.{arith}
use Rattle.rule_classes.proofs.laws.Readings.{IsReadSoFar-none, IsReadSoFar-few, IsReadSoFar-more}
use Rattle.rule_classes.proofs.colourings.Colouring.old_window.Goals as goal

pub loop-init : goal.loop-init
loop-init c = IsReadSoFar-none c.args.self.now c.args.window

pub with_letter-old-requires-clause-old : goal.with_letter-old-requires-clause-old
with_letter-old-requires-clause-old c = grind (arith, IsReadSoFar-few)

pub with_letter-old-requires-clause-power : goal.with_letter-old-requires-clause-power
with_letter-old-requires-clause-power c = grind (arith, IsReadSoFar-few)

pub overflow_mul-power : goal.overflow_mul-power
overflow_mul-power c = grind (arith, IsReadSoFar-more, IsReadSoFar-few)

pub loop-preserved : goal.loop-preserved
loop-preserved c =
    let next = IsReadSoFar-more c.requires.window (omega (arith, c.m-end.ensures.width)) c.loop.invariant in
    rw (c.with_letter-old.ensures, c.from.ensures, c.from-k.ensures, c.k.ensures.states) next

pub returns-clause-within : goal.returns-clause-within
returns-clause-within c = grind (arith, IsReadSoFar-few)

pub overflow_cast-result : goal.overflow_cast-result
overflow_cast-result c = grind (arith, IsReadSoFar-few)
