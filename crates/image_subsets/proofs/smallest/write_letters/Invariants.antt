use Rattle.std.proofs.Common.{◌≡◌, ℕ, ◌+◌, ◌≤◌, ◌<◌, List, ◌++◌, length, reverse, vec_capacity}
use Rattle.search_laws.proofs.Common.{Place, TreeSpells}
use Rattle.image_subsets.specs.SmallestSets.{AreWays}
use Rattle.image_subsets.proofs.smallest.write_letters.Given as goal

-- the letters so far, the last one first, complete the word of the place
abbrev pub invariant-loop-place : goal.invariant-loop-place
invariant-loop-place l = record {
  short : length l.word.items + l.place ≤ l.i;
  inside : l.place < length l.parents;
  spelled : (tree : List (Place ℕ)) → AreWays tree l.parents → (v : List ℕ) → TreeSpells tree l.place v → TreeSpells tree l.i (v ++ reverse l.word.items);
  capacity : vec_capacity l.word ≡ vec_capacity l.initial.word;
}

abbrev pub decreases-loop-place : goal.decreases-loop-place
decreases-loop-place l = l.place
