use Rattle.std.proofs.Common.{ℕ, ◌<◌}
use Rattle.word_image.proofs.Common.{node_count, HasBit}
use Rattle.tail_preimage.proofs.Rows.{AreRowsFilled}
use Rattle.tail_preimage.proofs.relations.joined.Given as goal

-- the rows so far
abbrev pub invariant-loop-u : goal.invariant-loop-u
invariant-loop-u l = AreRowsFilled l.graph (λ u v. (w : ℕ) × (w < node_count l.graph) × (HasBit l.first u w × HasBit l.second w v)) l.u l.rows
