-- The parts of a list, by the letter at one more window.
use Rattle.std.proofs.Common.{◌≡◌, ℕ, ◌^◌, ◌<◌, ◌≤◌, ◌↔◌, List, length, slice_index, set, refl, sym, ◌∙◌, arith, get_or-set_same, get_or-set_other}
use Rattle.word_image.proofs.Common.{at-set, LocalRule}
use Rattle.rule_lists.specs.Tables.{HasLetters}
use Rattle.rule_lists.specs.Listed.{IsListed}
use Rattle.rule_lists.specs.declared.properties.Property.{Property}
use Rattle.rule_lists.proofs.laws.Going.{IsTable-shape}

-- a table with a letter at one more window has this letter there
letter-set : (k size : ℕ) (fixed t : List ℕ) (w a : ℕ) → w < size → w < length fixed → a < k → HasLetters k size (set fixed w a) t
    → slice_index t w ≡ a
letter-set k size fixed t w a inside room letter has = grind (arith, get_or-set_same)

-- a table with the letters that are fixed at one open window and elsewhere has the letters fixed elsewhere
HasLetters-unset : (k size : ℕ) (fixed t : List ℕ) (w a : ℕ) → k ≤ slice_index fixed w → HasLetters k size (set fixed w a) t
    → HasLetters k size fixed t
HasLetters-unset k size fixed t w a open_ has v l is_fixed = grind (arith, get_or-set_other)

-- a table has those letters and the one that it has at the window
HasLetters-set : (k size : ℕ) (fixed t : List ℕ) (w : ℕ) → w < length fixed → HasLetters k size fixed t
    → HasLetters k size (set fixed w (slice_index t w)) t
HasLetters-set k size fixed t w room has v l = at-set (λ u a. a < k → slice_index t u ≡ a) fixed w 0 (slice_index t w) room v (λ _. has v l) (λ _. refl)

-- a rule is listed exactly where it is in a part
pub IsListed-parts : (property : Property) (k m : ℕ) (fixed : List ℕ) (w : ℕ) (r : LocalRule) → w < k ^ m → w < length fixed → k ≤ slice_index fixed w
    → IsListed property k m fixed r ↔ ((a : ℕ) × (a < k) × IsListed property k m (set fixed w a) r)
IsListed-parts property k m fixed w r inside room open_ = (
  λ h. (
    slice_index r.table w,
    IsTable-shape h.shape w inside,
    record { shape = h.shape; has = h.has; begins = HasLetters-set k (k ^ m) fixed r.table w room h.begins },
  ),
  λ (a, letter, h). record { shape = h.shape; has = h.has; begins = HasLetters-unset k (k ^ m) fixed r.table w a open_ h.begins },
)

-- a rule is listed in one part alone
pub IsListed-one_part : (property : Property) (k m : ℕ) (fixed : List ℕ) (w a b : ℕ) (r : LocalRule) → w < k ^ m → w < length fixed → a < k → b < k
    → IsListed property k m (set fixed w a) r → IsListed property k m (set fixed w b) r → a ≡ b
IsListed-one_part property k m fixed w a b r inside room ha hb first second =
    sym (letter-set k (k ^ m) fixed r.table w a inside room ha first.begins) ∙ letter-set k (k ^ m) fixed r.table w b inside room hb second.begins
