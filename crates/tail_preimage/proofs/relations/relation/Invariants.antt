use Rattle.std.proofs.Common.{◌-◌, length, drop}
use Rattle.tail_preimage.specs.Walks.{HasWalk}
use Rattle.tail_preimage.specs.Relations.{IsRelation}
use Rattle.tail_preimage.proofs.relations.relation.Given as goal

-- the last letters are followed
abbrev pub invariant-loop-n : goal.invariant-loop-n
invariant-loop-n l = IsRelation l.graph (HasWalk l.graph (drop (length l.word - l.n) l.word)) l.rows
