use Rattle.std.proofs.Common.{◌-◌}
use Rattle.word_image.proofs.Common.{node_count, IsUnion, HasBit}
use Rattle.tail_preimage.specs.Relations.{Rounds}
use Rattle.tail_preimage.proofs.periods.some_rounds.Given as goal

-- the first numbers are done
abbrev pub invariant-loop-n : goal.invariant-loop-n
invariant-loop-n l = IsUnion (node_count l.graph) (λ n u. Rounds (HasBit l.periods.period) n (l.sum - n) u) l.n l.set
