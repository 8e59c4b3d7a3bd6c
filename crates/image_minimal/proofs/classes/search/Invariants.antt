use Rattle.image_minimal.proofs.Common.{◌≡◌, ◌-◌, ◌*◌, ◌^◌, node_count, full_set, IsClosedStep, IsClassSearch}
use Rattle.image_minimal.proofs.Searches.{IsSearchAt}
use Rattle.image_minimal.proofs.classes.search.Given as goal

-- the steps from the first classes are followed
abbrev pub invariant-loop-place : goal.invariant-loop-place
invariant-loop-place l = record {
  search : IsClassSearch l.subsets l.classes.sets (l.place * l.subsets.states);
  limit : l.classes.limit ≡ 2 ^ node_count l.subsets;
}

-- how many classes may still come
abbrev pub decreases-loop-place : goal.decreases-loop-place
decreases-loop-place l = 2 ^ node_count l.subsets - l.place

-- the steps on the first letters are followed
abbrev pub invariant-loop-letter : goal.invariant-loop-letter
invariant-loop-letter l = record {
  search : IsSearchAt (IsClosedStep l.subsets) l.subsets.states (full_set l.subsets) l.classes.sets l.place l.set l.letter;
  limit : l.classes.limit ≡ 2 ^ node_count l.subsets;
}
