use Rattle.image_minimal.proofs.Common.{node_count, IsSetTo, IsLedInto}
use Rattle.image_minimal.proofs.closures.back.Given as goal

-- the first nodes are done
abbrev pub invariant-loop-u : goal.invariant-loop-u
invariant-loop-u l = IsSetTo (node_count l.graph) (IsLedInto l.graph l.set l.a) l.u l.before
