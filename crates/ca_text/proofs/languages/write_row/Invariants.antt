use Rattle.std.proofs.Common.{◌≡◌, ℕ, ◌+◌, ◌-◌, ◌*◌, ◌<◌, ◌≤◌, [], ◌∷◌, ◌++◌, drop, slice_index, codes, flat_map, decimal}
use Rattle.word_image.proofs.Common.{range_with_len}
use Rattle.image_minimal.specs.ImageLanguages.{Automaton}
use Rattle.ca_text.specs.Lines.{after_class}
use Rattle.ca_text.proofs.languages.write_row.Given as goal

-- the classes from this letter on stand at the end of the bytes, each after a blank, and the others have room before them
abbrev pub invariant-loop-letter : goal.invariant-loop-letter
invariant-loop-letter l = record {
  some : 1 ≤ l.letter;
  room : 6 * l.letter ≤ l.first + 1;
  within : l.first < 96;
  written : (a : Automaton) (i : ℕ) → a.states ≡ l.k → ((b : ℕ) → b < l.k → slice_index l.row b ≡ after_class a i b)
      → drop l.first l.bytes ≡ flat_map (λ b. codes " " ++ decimal (after_class a i b)) (range_with_len l.letter (l.k - l.letter)) ++ 10 ∷ [];
}
