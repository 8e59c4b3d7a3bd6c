use Rattle.std.proofs.Common.{◌≡◌, ℕ, ◌+◌, ◌≤◌, List, ◌++◌, length, slice_index, reverse, vec_capacity}
use Rattle.word_image.proofs.Common.{LocalRule, IsLeastWordOf}
use Rattle.image_subsets.specs.FamilyTrees.{IsFamilyTree}
use Rattle.image_subsets.proofs.family.Family.write_word.Given as goal

-- the letters so far, the last one first, complete the least word of the place
abbrev pub invariant-loop-parent : goal.invariant-loop-parent
invariant-loop-parent l = record {
  short : length l.word.items + l.place ≤ l.i;
  least : (r : LocalRule) → IsFamilyTree r l.self → (v : List ℕ) → IsLeastWordOf r (slice_index l.self.sets l.place) v
      → IsLeastWordOf r (slice_index l.self.sets l.i) (v ++ reverse l.word.items);
  capacity : vec_capacity l.word ≡ vec_capacity l.initial.word;
}

abbrev pub decreases-loop-parent : goal.decreases-loop-parent
decreases-loop-parent l = l.place
