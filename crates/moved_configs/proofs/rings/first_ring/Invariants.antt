use Rattle.moved_configs.proofs.Firsts.{FirstTo}
use Rattle.moved_configs.proofs.rings.first_ring.Given as goal

-- the first nodes are done
abbrev pub invariant-loop-start : goal.invariant-loop-start
invariant-loop-start l = FirstTo l.rule l.rows l.start l.fn.count l.best
