-- The configurations that a rule only moves by s cells: cell i of the image has the letter of cell i + s. If the window of
-- cell 0 has the cell s, the rule moves a configuration so if and only if it gives for each of its windows the letter at one
-- place of the window.
use Rattle.std.specs.Prelude.{◌≡◌, ℕ, ◌^◌, ◌<◌, ◌≤◌, ◌↔◌, List, slice_index, ℤ, ◌+ℤ◌}
use Rattle.word_image.specs.LocalRules.{LocalRule, node_count, value}
use Rattle.word_image.specs.Graphs.{HasBit}
use Rattle.word_image.specs.Ends.{end_node, end_letter}
use Rattle.word_image.specs.declared.side.Side.TheVariants.{Right, Left}
use Rattle.tail_config.specs.Configs.{Config, IsConfig, run, image_of}

-- the rule only moves the configuration by s cells: cell i of the image has the letter of cell i + s
abbrev pub IsMovedBy : LocalRule → ℤ → Config → Type 0
IsMovedBy r s x = (i : ℤ) → image_of r x i ≡ x (i +ℤ s)

-- the window with the value w occurs in some configuration that the rule only moves by s
pub record IsMovedWindow (r : LocalRule) (s : ℤ) (w : ℕ) : Type 0 where
  pub x : Config
  pub place : ℤ
  pub config : IsConfig r.states x
  pub moved : IsMovedBy r s x
  pub occurs : value r.states (run x place r.width) ≡ w

-- the rows have the window with the value w: the row of its first m - 1 letters has its last letter
abbrev pub HasWindow : LocalRule → List ℕ → ℕ → Type 0
HasWindow r rows w = HasBit rows (end_node Left r w) (end_letter Right r w)

-- the row of each node is a set of letters, and the rows past the last node are empty
pub record AreLetterSets (r : LocalRule) (rows : List ℕ) : Type 0 where
  pub letters : (u : ℕ) → u < node_count r → slice_index rows u < 2 ^ r.states
  pub rest : (u : ℕ) → node_count r ≤ u → slice_index rows u ≡ 0

-- the rows have exactly the windows that occur in configurations that the rule only moves by s
abbrev pub AreMovedWindows : LocalRule → ℤ → List ℕ → Type 0
AreMovedWindows r s rows = (w : ℕ) → w < r.states ^ r.width → (HasWindow r rows w ↔ IsMovedWindow r s w)

-- the rule only moves a configuration by s cells if and only if the rows have each window of the configuration
abbrev pub TellMoved : LocalRule → ℤ → List ℕ → Type 0
TellMoved r s rows = (x : Config) → IsConfig r.states x → (IsMovedBy r s x ↔ ((i : ℤ) → HasWindow r rows (value r.states (run x i r.width))))
