-- Classes of rules, and the least rule of a class. Two rules are in the same class if renaming the letters, or
-- mirroring and renaming the letters, makes one of them the other, whatever their offsets are.
use Rattle.std.specs.Prelude.{◌≡◌, ℕ, ◌≤◌, ◌↔◌, List, Bool, false, IsTrue, if◌then◌else◌, pos}
use Rattle.word_image.specs.LocalRules.{LocalRule, mirrored, wolfram_number}
use Rattle.rule_algebra.specs.Algebra.{IsRecolouring, IsRecoloured}

-- g has offset 0, and its table is the table of r with renamed letters
pub record HasRecolouredTable (r g : LocalRule) : Type 0 where
  pub colours : List ℕ
  pub recolouring : IsRecolouring r.states colours
  pub recoloured : IsRecoloured colours r g
  pub offset : g.offset ≡ pos 0

-- the rule r, or the mirrored rule of r if `mirror` is true
abbrev pub turned : LocalRule → Bool → LocalRule
turned r mirror = if mirror then mirrored r else r

-- g is in the class of r: it has the table of r with renamed letters, or if `mirror` is true, the table of the mirrored rule of r with renamed letters
abbrev pub IsInClass : LocalRule → Bool → LocalRule → Type 0
IsInClass r mirror g = HasRecolouredTable (turned r mirror) g

-- g has the least Wolfram number of the class of r; `mirror` is true only if no renaming of the letters of r itself gives g
pub record IsLeastOfClass (r : LocalRule) (mirror : Bool) (g : LocalRule) : Type 0 where
  pub member : IsInClass r mirror g
  pub least : (other : Bool) (h : LocalRule) → IsInClass r other h → wolfram_number g ≤ wolfram_number h
  pub needed : IsTrue mirror ↔ (¬ IsInClass r false g)
