use Rattle.std.proofs.Common.{◌≡◌, ◌<◌, ℕ, slice_index, count_ones, vec_capacity}
use Rattle.word_image.proofs.Common.{IsStep}
use Rattle.image_subsets.specs.SmallestSets.{IsFirstSmallest}
use Rattle.image_subsets.proofs.Searches.{IsExpanding}
use Rattle.image_subsets.proofs.smallest.follow.Given as goal

-- the steps on the first letters from the place are followed, and each set found so far has more than enough nodes
abbrev pub invariant-loop-letter : goal.invariant-loop-letter
invariant-loop-letter l = record {
  steps : (a : ℕ) → a < l.graph.states → IsStep l.graph (slice_index l.initial.sets l.place) a (slice_index l.steps a);
  search : IsExpanding l.graph l.sets l.parents.items l.place (slice_index l.initial.sets l.place) l.letter;
  smallest : IsFirstSmallest l.sets l.smallest;
  count : l.fewest ≡ count_ones (slice_index l.sets l.smallest);
  more : l.enough < l.fewest;
  capacity : vec_capacity l.parents ≡ vec_capacity l.initial.parents;
}
