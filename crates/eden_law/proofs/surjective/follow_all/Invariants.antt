use Rattle.std.proofs.Common.{ℕ, ◌-◌, ◌<◌, sum_by}
use Rattle.word_image.proofs.Common.{node_count, HasBit}
use Rattle.eden_law.specs.ReachedRows.{IsRowSearch}
use Rattle.eden_law.proofs.surjective.follow_all.Given as goal

-- the search goes on, and what was found stays
abbrev pub invariant-loop-node : goal.invariant-loop-node
invariant-loop-node l = record {
  search : IsRowSearch l.graph l.found l.followed;
  kept : (u v : ℕ) → u < node_count l.graph → v < node_count l.graph → HasBit l.initial.found u v → HasBit l.found u v;
}

-- how far the rows that were followed can still grow, as numbers
abbrev pub decreases-loop-node : goal.decreases-loop-node
decreases-loop-node l = sum_by (λ row. 65536 - row) l.followed
