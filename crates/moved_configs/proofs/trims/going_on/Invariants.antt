use Rattle.word_image.proofs.Common.{node_count, IsSetTo}
use Rattle.moved_configs.specs.Trims.{GoesOn}
use Rattle.moved_configs.proofs.trims.going_on.Given as goal

-- the first nodes are done
abbrev pub invariant-loop-node : goal.invariant-loop-node
invariant-loop-node l = IsSetTo (node_count l.rule) (GoesOn l.side l.rule l.place l.nodes) l.node l.found
