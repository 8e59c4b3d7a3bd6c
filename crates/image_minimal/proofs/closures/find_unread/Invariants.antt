use Rattle.image_minimal.proofs.Common.{◌≡◌, ◌-◌, ◌*◌, ◌^◌, node_count, IsBack, IsSearch}
use Rattle.image_minimal.proofs.Searches.{IsSearchAt}
use Rattle.image_minimal.proofs.closures.find_unread.Given as goal

-- the edges from the first sets are followed
abbrev pub invariant-loop-place : goal.invariant-loop-place
invariant-loop-place l = record {
  search : IsSearch (IsBack l.graph) l.graph.states 0 l.sets.sets (l.place * l.graph.states);
  limit : l.sets.limit ≡ 2 ^ node_count l.graph;
}

-- how many sets may still come
abbrev pub decreases-loop-place : goal.decreases-loop-place
decreases-loop-place l = 2 ^ node_count l.graph - l.place

-- the edges on the first letters are followed
abbrev pub invariant-loop-a : goal.invariant-loop-a
invariant-loop-a l = record {
  search : IsSearchAt (IsBack l.graph) l.graph.states 0 l.sets.sets l.place l.set l.a;
  limit : l.sets.limit ≡ 2 ^ node_count l.graph;
}
