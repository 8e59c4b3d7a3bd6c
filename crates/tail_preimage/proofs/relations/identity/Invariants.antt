use Rattle.std.proofs.Common.{◌≡◌}
use Rattle.tail_preimage.proofs.Rows.{AreRowsFilled}
use Rattle.tail_preimage.proofs.relations.identity.Given as goal

-- the rows so far
abbrev pub invariant-loop-u : goal.invariant-loop-u
invariant-loop-u l = AreRowsFilled l.graph (λ u v. u ≡ v) l.u l.rows
