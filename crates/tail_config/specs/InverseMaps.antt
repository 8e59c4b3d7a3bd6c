-- The inverse map of a rule (Amoroso and Patt 1972). In a determined window, n letters of an image determine one letter
-- of each preimage, the letter at place c. So the map from these n letters to the letter at place c reconstructs a
-- configuration from its image.
use Rattle.std.specs.Prelude.{◌≡◌, ℕ, ◌^◌, List, length, slice_index, ℤ, pos, neg_ℤ, ◌+ℤ◌, ◌-ℤ◌}
use Rattle.word_image.specs.LocalRules.{LocalRule, IsWord, value}
use Rattle.word_image.specs.Words.{IsPreimage}
use Rattle.tail_config.specs.Configs.{Config, run}

-- a map that reads `width` letters of an image, starting at cell i + offset, and gives a letter for cell i
pub record WindowMap : Type 0 where
  pub states : ℕ
  pub width : ℕ
  pub offset : ℤ
  pub table : List ℕ

-- the letter that the map gives for a word of `width` letters
abbrev pub map_letter : WindowMap → List ℕ → ℕ
map_letter g w = slice_index g.table (value g.states w)

-- the configuration that the map g gives for the configuration y: the letter at place i is the map's letter for the `width` letters of y that begin at place i + offset
abbrev pub mapped : WindowMap → Config → Config
mapped g y i = map_letter g (run y (i +ℤ g.offset) g.width)

-- g is the inverse map of the determined window (n, c): for a word of n letters it gives the letter at place c of every preimage of the word, or 0 if the word has no preimage
pub record IsInverseMap (r : LocalRule) (n c : ℕ) (g : WindowMap) : Type 0 where
  pub states : g.states ≡ r.states
  pub width : g.width ≡ n
  pub offset : g.offset ≡ neg_ℤ r.offset -ℤ pos c
  pub entries : length g.table ≡ r.states ^ n
  pub letter : (w x : List ℕ) → length w ≡ n → IsPreimage r w x → map_letter g w ≡ slice_index x c
  pub none : (w : List ℕ) → IsWord r.states w → length w ≡ n → ((x : List ℕ) → ¬ IsPreimage r w x) → map_letter g w ≡ 0
