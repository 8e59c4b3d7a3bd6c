use Rattle.word_image.proofs.Common.{node_count, IsSetTo}
use Rattle.moved_configs.specs.MovedRings.{LeadsInto}
use Rattle.moved_configs.proofs.rings.before.Given as goal

-- the first nodes are done
abbrev pub invariant-loop-node : goal.invariant-loop-node
invariant-loop-node l = IsSetTo (node_count l.rule) (LeadsInto l.rule l.rows l.nodes) l.node l.found
