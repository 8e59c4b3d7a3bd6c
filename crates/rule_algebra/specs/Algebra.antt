-- Rules that are made from other rules: shifted, composed and widened rules, rules with renamed letters, and trimmed
-- rules, from which ignored cells at the ends of the window are dropped. In a renamed rule each letter is replaced by
-- its colour: `colours` is a list in which place a has the colour of the letter a.
use Rattle.std.specs.Prelude.{◌≡◌, ℕ, ◌+◌, ◌-◌, ◌^◌, ◌<◌, ◌≤◌, List, length, map, take, drop, slice_index, ℤ, pos, ◌+ℤ◌}
use Rattle.word_image.specs.LocalRules.{LocalRule, IsWord, local_map}
use Rattle.word_image.specs.Words.{image}
use Rattle.tail_config.specs.Tails.{TailConfig, IsTail, image_cell}

-- g gives the same image as r for each configuration
abbrev pub KeepsImages : LocalRule → LocalRule → Type 0
KeepsImages r g = (t : TailConfig) (i : ℤ) → IsTail r.states t → image_cell g t i ≡ image_cell r t i

-- the rule r with its window moved to the right by `by` cells
abbrev pub shifted : LocalRule → ℤ → LocalRule
shifted r by = record { states = r.states; width = r.width; offset = r.offset +ℤ by; table = r.table }

-- `colours` is a permutation of the k letters
pub record IsRecolouring (k : ℕ) (colours : List ℕ) : Type 0 where
  pub word : IsWord k colours
  pub long : length colours ≡ k
  pub different : (a b : ℕ) → a < k → b < k → slice_index colours a ≡ slice_index colours b → a ≡ b

-- the word with its letters renamed: each letter is replaced by its colour
abbrev pub recoloured : List ℕ → List ℕ → List ℕ
recoloured colours w = map (slice_index colours) w

-- g is f with renamed letters: for a window with renamed letters, g gives the colour of the letter that f gives for the window
pub record IsRecoloured (colours : List ℕ) (f g : LocalRule) : Type 0 where
  pub states : g.states ≡ f.states
  pub width : g.width ≡ f.width
  pub entries : length g.table ≡ f.states ^ f.width
  pub letters : (w : List ℕ) → IsWord f.states w → length w ≡ f.width → local_map g (recoloured colours w) ≡ slice_index colours (local_map f w)

-- g is the composition of two rules: it maps a word to the image under `second` of the image of the word under `first`
pub record IsComposed (first second g : LocalRule) : Type 0 where
  pub states : g.states ≡ first.states
  pub width : g.width ≡ first.width + second.width - 1
  pub offset : g.offset ≡ first.offset +ℤ second.offset
  pub images : (x : List ℕ) → IsWord first.states x → g.width ≤ length x + 1 → image g x ≡ image second (image first x)

-- g is r widened to m cells: its window begins at the same cell, and it ignores the added cells at the end of the window
pub record IsWidened (r : LocalRule) (m : ℕ) (g : LocalRule) : Type 0 where
  pub states : g.states ≡ r.states
  pub width : g.width ≡ m
  pub offset : g.offset ≡ r.offset
  pub images : KeepsImages r g

-- the first d letters and the last e letters of a window never change the letter that the rule gives
abbrev pub Ignores : LocalRule → ℕ → ℕ → Type 0
Ignores r d e = (v w : List ℕ) → IsWord r.states v → IsWord r.states w → length v ≡ r.width → length w ≡ r.width
    → drop d (take (r.width - e) v) ≡ drop d (take (r.width - e) w) → local_map r v ≡ local_map r w

-- g is r without the ignored cells at the ends of its window: first all ignored first cells are dropped, then all ignored last cells, but the width stays at least 2
pub record IsTrimmed (r g : LocalRule) : Type 0 where
  pub first : ℕ
  pub last : ℕ
  pub two_left : first + last + 2 ≤ r.width
  pub firsts_ignored : Ignores r first 0
  pub most_firsts : (d : ℕ) → d + 2 ≤ r.width → Ignores r d 0 → d ≤ first
  pub lasts_ignored : Ignores r 0 last
  pub most_lasts : (e : ℕ) → first + e + 2 ≤ r.width → Ignores r 0 e → e ≤ last
  pub states : g.states ≡ r.states
  pub width : g.width + first + last ≡ r.width
  pub offset : g.offset ≡ r.offset +ℤ pos first
  pub images : KeepsImages r g
