use Rattle.std.proofs.Common.{length, ap, ⊎_elim, arith, rules}
use Rattle.word_image.proofs.Common.{cases_lt}
use Rattle.tail_config.proofs.laws.Spans.{right_from_run}
use Rattle.tail_config.proofs.laws.Decisions.{not_AgreeRight}
use Rattle.tail_config.proofs.compare.first_right.Goals as goal

pub returns-clause-none : goal.returns-clause-none
returns-clause-none c =
    let first = ap length c.right.ensures.right in
    let second = ap length c.right-2.ensures.right in
    right_from_run c.right.ensures.tail.short.tail c.right-2.ensures.tail.short.tail c.args.start c.requires
    (λ i from l. c.loop-i.invariant i from (omega (arith, c.longer.ensures.longer)))

pub returns-then-cell-clause-apart : goal.returns-then-cell-clause-apart
returns-then-cell-clause-apart c = λ past. not_AgreeRight c.right.ensures.tail.short.tail c.right-2.ensures.tail.short.tail c.loop-i.i past (search rules)

pub loop-i-preserved : goal.loop-i-preserved
loop-i-preserved c j from below = ⊎_elim (c.loop-i.invariant j from) (λ last. grind arith) (cases_lt j c.loop-i.i)
