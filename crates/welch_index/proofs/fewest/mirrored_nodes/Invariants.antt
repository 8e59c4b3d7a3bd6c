use Rattle.std.proofs.Common.{IsBitSet}
use Rattle.word_image.proofs.Common.{node_count, IsSetTo}
use Rattle.pair_laws.proofs.Mirrors.{mirror_node}
use Rattle.welch_index.proofs.fewest.mirrored_nodes.Given as goal

-- the first nodes are done
abbrev pub invariant-loop-u : goal.invariant-loop-u
invariant-loop-u l = IsSetTo (node_count l.rule) (λ u. IsBitSet l.set (mirror_node l.rule u)) l.u l.nodes
