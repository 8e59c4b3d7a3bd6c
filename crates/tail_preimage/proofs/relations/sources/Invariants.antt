use Rattle.std.proofs.Common.{◌≢◌, bit_and, slice_index}
use Rattle.word_image.proofs.Common.{node_count, IsSetTo}
use Rattle.tail_preimage.proofs.relations.sources.Given as goal

-- the first nodes are done
abbrev pub invariant-loop-u : goal.invariant-loop-u
invariant-loop-u l = IsSetTo (node_count l.graph) (λ u. bit_and (slice_index l.rows u) l.set ≢ 0) l.u l.before
