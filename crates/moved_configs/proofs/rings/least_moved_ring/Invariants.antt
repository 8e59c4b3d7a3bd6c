use Rattle.moved_configs.proofs.Firsts.{ReadsNoShorter}
use Rattle.moved_configs.proofs.rings.least_moved_ring.Given as goal

-- no shorter ring is read
abbrev pub invariant-loop-count : goal.invariant-loop-count
invariant-loop-count l = ReadsNoShorter l.rule l.rows l.count
