use Rattle.image_minimal.proofs.Common.{◌≡◌, ℕ, ◌+◌, ◌<◌, ◌≤◌, List, [], ◌∷◌, ◌++◌, length, reverse, SpellsLink, vec_capacity}
use Rattle.image_minimal.proofs.separation.write_word.Given as goal

-- the letters so far, the last one first, complete the word of the place
abbrev pub invariant-loop-place : goal.invariant-loop-place
invariant-loop-place l = record {
  within : l.place < length l.links;
  short : length l.word.items + l.place ≤ l.at + 1;
  capacity : vec_capacity l.word ≡ vec_capacity l.fn.word;
  completes : (w : List ℕ) → SpellsLink l.links l.at w → (v : List ℕ) × SpellsLink l.links l.place v × (w ++ l.last ∷ [] ≡ v ++ reverse l.word.items);
}

abbrev pub decreases-loop-place : goal.decreases-loop-place
decreases-loop-place l = l.place
