use Rattle.std.proofs.Common.{IsBitSet}
use Rattle.word_image.specs.Graphs.{HasBit}
use Rattle.word_image.proofs.laws.Unions.{IsUnion}
use Rattle.word_image.proofs.edges.union_of_rows.Given as goal

-- the first nodes are done
abbrev pub invariant-loop-u : goal.invariant-loop-u
invariant-loop-u l = IsUnion l.fn.nodes (λ u v. IsBitSet l.set u × HasBit l.rows u v) l.u l.after
