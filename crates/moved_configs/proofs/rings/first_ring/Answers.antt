use Rattle.std.proofs.Common.{arith}
use Rattle.moved_configs.proofs.Firsts.{FirstTo-skip, FirstTo-found, FirstTo-some, FirstTo-none}
use Rattle.moved_configs.proofs.rings.first_ring.Goals as goal
use Rattle.moved_configs.proofs.rings.first_ring.Goals.{in-Some, in_default}

pub loop-start-preserved : goal.loop-start-preserved
loop-start-preserved c =
    let r = c.args.rule.now in
    elim c.match-ring_from.branch [
      | in-Some w ↦ rw w.best-is
          (FirstTo-found r c.args.rows.now c.loop-start.start c.args.count c.loop-start.best w.in-Some.ring w.earlier.result (omega arith) c.loop-start.invariant w.in-Some.ensures.first w.earlier.ensures)
      | in_default w ↦ rw w.best-is
          (FirstTo-skip r c.args.rows.now c.loop-start.start c.args.count c.loop-start.best c.loop-start.invariant w.in_default.ensures.none)
    ]

pub returns-clause-first : goal.returns-clause-first
returns-clause-first c = FirstTo-some c.args.rule.now c.args.rows.now c.loop-start.start c.args.count c.loop-start.best (omega arith) c.loop-start.invariant

pub returns-clause-none : goal.returns-clause-none
returns-clause-none c = FirstTo-none c.args.rule.now c.args.rows.now c.loop-start.start c.args.count c.loop-start.best (omega arith) c.loop-start.invariant
