-- The search for the least rule of a class fills the table of a rule window by window. The new rule is the old rule
-- with renamed letters, mirrored or not: a colouring says which letter becomes which colour. For each window of the new
-- rule the old rule reads a window in old letters, reversed if the rule is mirrored. The value of this window is called
-- the old value.
use Rattle.std.specs.Prelude.{◌≡◌, ℕ, ◌+◌, ◌*◌, ◌^◌, ◌<◌, ◌≤◌, List, length, slice_index}
use Rattle.word_image.specs.LocalRules.{LocalRule, most_windows}
use Rattle.rule_classes.specs.Colourings.{entry, old_value}
use Rattle.rule_classes.specs.declared.colourings.Colouring.{Colouring}
use Rattle.rule_classes.specs.declared.colourings.Row.{Row}

-- `row` gives the old values of the new windows that begin with node u: `start` plus `step` times the old letter of the window's last letter
pub record IsRow (r : LocalRule) (c : Colouring) (u : ℕ) (row : Row) : Type 0 where
  pub values : (a : ℕ) → a < r.states → row.start + slice_index c.letters a * row.step ≡ old_value r c (u * r.states + a)

-- the list has 256 numbers, and all numbers after the table of the rule are 0
pub record HasZeros (r : LocalRule) (entries : List ℕ) : Type 0 where
  pub long : length entries ≡ most_windows
  pub zeros : (v : ℕ) → r.states ^ r.width ≤ v → slice_index entries v ≡ 0

-- `windows` has the old values of the first n windows, and `entries` has the letters that the new rule gives for the first n windows
pub record AreFilled (r : LocalRule) (c : Colouring) (n : ℕ) (windows entries : List ℕ) : Type 0 where
  pub windows_long : length windows ≡ most_windows
  pub first : slice_index windows 0 ≡ old_value r c 0
  pub values : (v : ℕ) → v < n → slice_index windows v ≡ old_value r c v
  pub colours : (v : ℕ) → v < n → slice_index entries v ≡ entry r c v
  pub zeros : HasZeros r entries
