-- The tables of composed and widened rules, and of rules without the first cells of their window. A list of colours
-- gives each letter a new letter, its colour.
use Rattle.std.specs.Prelude.{◌≡◌, ℕ, ◌+◌, ◌-◌, ◌<◌, ◌≤◌, List, length, take, drop, slice_index, pos, ◌+ℤ◌}
use Rattle.word_image.specs.LocalRules.{LocalRule, IsWord, local_map, node_count, most_states}
use Rattle.word_image.specs.Words.{image}
use Rattle.rule_algebra.specs.Algebra.{Ignores}
use Rattle.rule_algebra.specs.Tabulated.{table_by}

-- the composition of two rules: first the rule `first`, then the rule `second`
abbrev pub composed : LocalRule → LocalRule → LocalRule
composed first second = record {
  states = first.states;
  width = first.width + second.width - 1;
  offset = first.offset +ℤ second.offset;
  table = table_by first.states (first.width + second.width - 1) (λ w. local_map second (image first w));
}

-- the rule r widened to width m, which ignores the added last cells
abbrev pub widened : LocalRule → ℕ → LocalRule
widened r m = record {
  states = r.states;
  width = m;
  offset = r.offset;
  table = table_by r.states m (λ w. local_map r (take r.width w));
}

-- the rule r without the first cell of its window; the table is the part of the table of r in which this cell is 0
abbrev pub without_first : LocalRule → LocalRule
without_first r = record {
  states = r.states;
  width = r.width - 1;
  offset = r.offset +ℤ pos 1;
  table = take (node_count r) r.table;
}

-- the 16 letters of `letters` are below k, and for each letter a below n, the place `colours`[a] has the letter a
pub record AreOldLetters (k : ℕ) (colours : List ℕ) (n : ℕ) (letters : List ℕ) : Type 0 where
  pub long : length letters ≡ most_states
  pub word : IsWord k letters
  pub back : (a : ℕ) → a < n → slice_index letters (slice_index colours a) ≡ a

-- g is r without the first n cells of the window: for a window without its first n letters, g gives the letter that r gives for the whole window
pub record IsRest (r : LocalRule) (n : ℕ) (g : LocalRule) : Type 0 where
  pub states : g.states ≡ r.states
  pub width : n + g.width ≡ r.width
  pub offset : g.offset ≡ r.offset +ℤ pos n
  pub letters : (w : List ℕ) → IsWord r.states w → length w ≡ r.width → local_map g (drop n w) ≡ local_map r w

-- g is r without the ignored first cells of the window: as many cells are dropped as possible, but the width stays at least 2
pub record DropsFirsts (r g : LocalRule) : Type 0 where
  pub count : ℕ
  pub rest : IsRest r count g
  pub most : (d : ℕ) → d + 2 ≤ r.width → Ignores r d 0 → d ≤ count
