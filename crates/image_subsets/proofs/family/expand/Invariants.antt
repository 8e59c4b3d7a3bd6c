use Rattle.std.proofs.Common.{◌≡◌, ◌<◌, ℕ, slice_index, vec_capacity}
use Rattle.word_image.proofs.Common.{IsStep}
use Rattle.image_subsets.proofs.Searches.{IsExpanding}
use Rattle.image_subsets.proofs.family.expand.Given as goal

-- the steps on the first letters from the place are followed
abbrev pub invariant-loop-letter : goal.invariant-loop-letter
invariant-loop-letter l = record {
  steps : (a : ℕ) → a < l.graph.states → IsStep l.graph (slice_index l.initial.sets l.place) a (slice_index l.steps a);
  search : IsExpanding l.graph l.sets l.parents.items l.place (slice_index l.initial.sets l.place) l.letter;
  capacity : vec_capacity l.parents ≡ vec_capacity l.initial.parents;
}
