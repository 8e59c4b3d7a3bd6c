use Rattle.word_image.proofs.Common.{HasBit}
use Rattle.tail_preimage.proofs.Rows.{AreRowsFilled}
use Rattle.tail_preimage.proofs.relations.reversed.Given as goal

-- the rows so far
abbrev pub invariant-loop-u : goal.invariant-loop-u
invariant-loop-u l = AreRowsFilled l.graph (λ u v. HasBit l.relation v u) l.u l.rows
