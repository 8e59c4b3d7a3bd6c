use Rattle.std.proofs.Common.{length, ap, arith, rules}
use Rattle.tail_config.proofs.laws.Spans.{left_from_run}
use Rattle.tail_config.proofs.laws.Decisions.{not_AgreeLeft}
use Rattle.tail_config.proofs.compare.first_left.Goals as goal

pub returns-clause-none : goal.returns-clause-none
returns-clause-none c =
    let first = ap length c.left.ensures.left in
    let second = ap length c.left-2.ensures.left in
    left_from_run c.left.ensures.tail.short.tail c.left-2.ensures.tail.short.tail (λ d l. c.loop-i.invariant d (omega arith))

pub returns-then-cell-clause-apart : goal.returns-then-cell-clause-apart
returns-then-cell-clause-apart c = not_AgreeLeft c.left.ensures.tail.short.tail c.left-2.ensures.tail.short.tail c.loop-i.i (search rules)
