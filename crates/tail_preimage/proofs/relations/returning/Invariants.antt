use Rattle.word_image.proofs.Common.{node_count, IsSetTo, HasBit}
use Rattle.tail_preimage.proofs.relations.returning.Given as goal

-- the first nodes are done
abbrev pub invariant-loop-u : goal.invariant-loop-u
invariant-loop-u l = IsSetTo (node_count l.graph) (λ u. HasBit l.rows u u) l.u l.set
