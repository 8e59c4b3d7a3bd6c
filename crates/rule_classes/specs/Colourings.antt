-- Colourings, and the search for the colouring that makes the least rule. A colouring gives each letter of the old rule
-- a new letter, its colour, and says whether the old rule is mirrored. It makes a new rule by renaming the letters of
-- the old rule, mirrored or not. The search chooses letters for the colours one after the other: the colours from `low`
-- to `high` - 1 are free, which means that they have no letter yet.
use Rattle.std.specs.Prelude.{◌≡◌, ◌⊎◌, ℕ, ◌^◌, ◌<◌, ◌≤◌, List, length, reverse, slice_index, Bool, if◌then◌else◌, pos}
use Rattle.word_image.specs.LocalRules.{LocalRule, value, word_of, local_map, wolfram_number}
use Rattle.word_image.specs.declared.side.Side.{Side}
use Rattle.word_image.specs.declared.side.Side.TheVariants.{Right, Left}
use Rattle.rule_algebra.specs.Algebra.{recoloured}
use Rattle.rule_algebra.specs.Tabulated.{table_by}
use Rattle.rule_classes.specs.Classes.{turned}
use Rattle.rule_classes.specs.declared.colourings.Colouring.{Colouring}

-- `colours` has the colour of each letter below k, and `letters` has the letter of each colour
pub record AreInverse (k : ℕ) (colours letters : List ℕ) : Type 0 where
  pub colours_long : k ≤ length colours
  pub letters_long : k ≤ length letters
  pub colour : (a : ℕ) → a < k → slice_index colours a < k
  pub letter : (a : ℕ) → a < k → slice_index letters a < k
  pub back : (a : ℕ) → a < k → slice_index letters (slice_index colours a) ≡ a
  pub there : (a : ℕ) → a < k → slice_index colours (slice_index letters a) ≡ a

-- c is a colouring of k letters: its list of colours and its list of letters undo each other
abbrev pub IsColouring : ℕ → Colouring → Type 0
IsColouring k c = AreInverse k c.colours c.letters

-- the side of the old window on which the last letter of the new window is: the left if the rule is mirrored, and the right if not
abbrev pub last_side : Bool → Side
last_side mirror = if mirror then Left else Right

-- the window with the value v, written in old letters: each colour is replaced by its letter
abbrev pub old_word : LocalRule → Colouring → ℕ → List ℕ
old_word r c v = recoloured c.letters (word_of r.states r.width v)

-- the word w, or the reversed word if the rule is mirrored
abbrev pub read_as : Bool → List ℕ → List ℕ
read_as mirror w = if mirror then reverse w else w

-- the value of the old window that belongs to the new window with the value v
abbrev pub old_value : LocalRule → Colouring → ℕ → ℕ
old_value r c v = value r.states (read_as c.mirrored (old_word r c v))

-- the letter that the new rule gives for a window: the colour of the letter that the old rule, mirrored or not, gives for the window in old letters
abbrev pub new_letter : LocalRule → Colouring → List ℕ → ℕ
new_letter r c w = slice_index c.colours (local_map (turned r c.mirrored) (recoloured c.letters w))

-- the letter that the new rule gives for the window with the value v
abbrev pub entry : LocalRule → Colouring → ℕ → ℕ
entry r c v = new_letter r c (word_of r.states r.width v)

-- the new rule, which the colouring makes from the old rule r; it has offset 0
abbrev pub in_colours : LocalRule → Colouring → LocalRule
in_colours r c = record { states = r.states; width = r.width; offset = pos 0; table = table_by r.states r.width (new_letter r c) }

-- the Wolfram number of the rule that the colouring makes
abbrev pub recoloured_number : LocalRule → Colouring → ℕ
recoloured_number r c = wolfram_number (in_colours r c)

-- the colour has a letter: it is below `low`, or at least `high`
abbrev pub IsChosen : ℕ → ℕ → ℕ → Type 0
IsChosen low high colour = (colour < low) ⊎ (high ≤ colour)

-- d is a colouring that completes c: it is mirrored if and only if c is, and at the colours that aren't free it has the letters of c
pub record Completes (k : ℕ) (c : Colouring) (low high : ℕ) (d : Colouring) : Type 0 where
  pub colouring : IsColouring k d
  pub mirrored : d.mirrored ≡ c.mirrored
  pub letters : (a : ℕ) → a < k → IsChosen low high a → slice_index d.letters a ≡ slice_index c.letters a

-- `found` makes the least rule among `before` and the colourings with the property P. If no colouring with this property makes a lesser rule than `before`, then `found` is `before`
pub record IsLeastAmong (r : LocalRule) (P : Colouring → Type 0) (before found : Colouring) : Type 0 where
  pub colouring : IsColouring r.states found
  pub one : (found ≡ before) ⊎ (P found × (recoloured_number r found < recoloured_number r before))
  pub least : (d : Colouring) → P d → recoloured_number r found ≤ recoloured_number r d

-- `found` makes the least rule among `before` and the colourings that complete c
abbrev pub IsLeastColouring : LocalRule → Colouring → ℕ → ℕ → Colouring → Colouring → Type 0
IsLeastColouring r c low high = IsLeastAmong r (Completes r.states c low high)

-- for each window with a value of at least v, every colouring that completes c makes a rule that gives the same letter as the rule that `best` makes
pub record AgreeFrom (r : LocalRule) (c : Colouring) (low high : ℕ) (best : Colouring) (v : ℕ) : Type 0 where
  pub same : (d : Colouring) → Completes r.states c low high d → (u : ℕ) → v ≤ u → u < r.states ^ r.width → entry r d u ≡ entry r best u
