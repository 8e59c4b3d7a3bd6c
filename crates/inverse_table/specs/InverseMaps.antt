-- What the inverse map of a determined window (n, c) gives, and the map as a rule. The map computes the letter at place
-- c of a word of n + m - 1 letters from the n letters of its image, if the rule has width m.
use Rattle.std.specs.Prelude.{◌≡◌, ℕ, ◌+◌, ◌*◌, ◌/◌, List, length, map, max, slice_index, ◌==◌, if◌then◌else◌, ℤ, pos, neg_ℤ, ◌-◌, slice_range, ◌+ℤ◌, ◌-ℤ◌}
use Rattle.std.specs.List.{range_with_len}
use Rattle.word_image.specs.LocalRules.{LocalRule, IsWord, local_map}
use Rattle.word_image.specs.Words.{image, IsPreimage}
use Rattle.word_image.specs.Windows.{IsDetermined}
use Rattle.tail_config.specs.InverseMaps.{WindowMap, IsInverseMap, map_letter}
use Rattle.tail_config.specs.Tails.{cell, TailConfig, IsTail, image_cell}
use Rattle.inverse_table.specs.MapLimits.{IsWindowMap}

-- the map g as a rule. A rule has at least width 2, so if g reads one letter, the rule ignores its second cell
abbrev pub map_rule : WindowMap → LocalRule
map_rule g = record {
  states = g.states;
  width = max 2 g.width;
  offset = g.offset;
  table = if g.width == 1 then map (λ v. slice_index g.table (v / g.states)) (range_with_len 0 (g.states * g.states)) else g.table;
}

-- the image of a word under the map: the letters that the map gives for each `width` consecutive letters of the word
abbrev pub map_image : WindowMap → List ℕ → List ℕ
map_image g x = map (λ i. map_letter g (slice_range x i (i + g.width))) (range_with_len 0 (length x + 1 - g.width))

-- the map g reconstructs configurations and words from their images, and every word of n letters has a preimage
pub record GivesBack (r : LocalRule) (n c : ℕ) (g : WindowMap) : Type 0 where
  -- the map computes cell i of a configuration from the n cells of its image that begin at cell i + offset
  pub cells : (t : TailConfig) → IsTail r.states t → (i : ℤ) → map_letter g (map (λ j. image_cell r t (i +ℤ g.offset +ℤ pos j)) (range_with_len 0 n)) ≡ cell t i
  -- the map computes the letter of a word at place c from the image of the word
  pub back : (x : List ℕ) → IsWord r.states x → length x ≡ n + (r.width - 1) → map_letter g (image r x) ≡ slice_index x c
  -- the rule undoes the map: from the letters that the map gives for a word, the rule gives the letter of the word at place c
  pub forth : (x : List ℕ) → IsWord r.states x → length x ≡ n + (r.width - 1) → local_map r (map_image g x) ≡ slice_index x c
  -- every word of n letters has a preimage, so each letter in the table of the map is the letter of some preimage
  pub onto : (w : List ℕ) → IsWord r.states w → length w ≡ n → (x : List ℕ) × IsPreimage r w x

-- the map over the window (n, c) with these letters
abbrev pub map_over : LocalRule → ℕ → ℕ → List ℕ → WindowMap
map_over r n c letters = record { states = r.states; width = n; offset = neg_ℤ r.offset -ℤ pos c; table = letters }

-- the window (n, c) is determined, and these are the letters of its inverse map, which gives letters back and is within the limits of maps
pub record AreMapLetters (r : LocalRule) (n c : ℕ) (letters : List ℕ) : Type 0 where
  pub determined : IsDetermined r n c
  pub map : IsInverseMap r n c (map_over r n c letters)
  pub gives_back : GivesBack r n c (map_over r n c letters)
  pub limits : IsWindowMap (map_over r n c letters)
