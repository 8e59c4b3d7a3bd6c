-- Configurations in new colours, and what recolouring keeps of a rule, at any offset.
use Rattle.std.proofs.Common.{◌≡◌, ℕ, List, slice_index, ℤ, pos, negsuc, ◌+ℤ◌, ◌-ℤ◌, sym, ap, ◌∙◌, arith, mod-lt}
use Rattle.word_image.proofs.Common.{cases_lt, ints, length-map, get_or-map, LocalRule, IsRule}
use Rattle.std.proofs.lemmas.Simd.{map-map}
use Rattle.tail_config.proofs.Common.{TailConfig, IsTail, cell, cells, image_cell, Same, ShareImage, IsInjective, IsRightClosing, IsLeftClosing, length-run, IsWord-run, cell-middle, cell-right, cell-below}
use Rattle.rule_algebra.specs.Algebra.{IsRecoloured, recoloured}
use Rattle.rule_classes.specs.Colourings.{AreInverse}
use Rattle.rule_classes.proofs.laws.Colours.{AreInverse-swap, IsWord-colours}
use Rattle.rule_classes.proofs.laws.Recoloured.{IsRecoloured-back}

-- the configuration with its letters in the new colours
abbrev recoloured_tail : List ℕ → TailConfig → TailConfig
recoloured_tail colours t = record { left = recoloured colours t.left; middle = recoloured colours t.middle; right = recoloured colours t.right }

-- a configuration in the new colours is a configuration
IsTail-recoloured : {k : ℕ} {colours letters : List ℕ} {t : TailConfig} → AreInverse k colours letters → IsTail k t
    → IsTail k (recoloured_tail colours t)
IsTail-recoloured {k} {colours} {letters} {t} h tail = record {
  left_some = omega (arith, tail.left_some, length-map t.left (slice_index colours));
  right_some = omega (arith, tail.right_some, length-map t.right (slice_index colours));
  left_word = IsWord-colours h t.left tail.left_word;
  middle_word = IsWord-colours h t.middle tail.middle_word;
  right_word = IsWord-colours h t.right tail.right_word;
}

-- the cells of a configuration in the new colours are its cells in the new colours
cell-recoloured : {k : ℕ} {t : TailConfig} → (colours : List ℕ) → IsTail k t → (i : ℤ)
    → cell (recoloured_tail colours t) i ≡ slice_index colours (cell t i)
cell-recoloured {k} {t} colours tail (pos i) =
    grind (arith, length-map, cell-middle, get_or-map, cell-right, mod-lt, cases_lt)
cell-recoloured {k} {t} colours tail (negsuc i) = grind (arith, length-map, get_or-map)

-- the runs of cells of a recoloured configuration are the runs in the new colours
cells-recoloured : {k : ℕ} {t : TailConfig} → (colours : List ℕ) → IsTail k t → (i : ℤ) (n : ℕ)
    → cells (recoloured_tail colours t) i n ≡ recoloured colours (cells t i n)
cells-recoloured {k} {t} colours tail i n = simp (cell-recoloured colours tail, map-map)

-- the image cells of the recoloured rule are the image cells in the new colours, as far apart as the offsets
image_cell-recoloured : {r g : LocalRule} {colours : List ℕ} {t : TailConfig} → IsRecoloured colours r g → IsTail r.states t → (i j : ℤ)
    → i +ℤ g.offset ≡ j +ℤ r.offset
    → image_cell g (recoloured_tail colours t) i ≡ slice_index colours (image_cell r t j)
image_cell-recoloured {r} {g} {colours} {t} new tail i j e =
    rw (e, new.width, cells-recoloured colours tail (j +ℤ r.offset) r.width)
    (new.letters (cells t (j +ℤ r.offset) r.width) (IsWord-run (cell-below tail) (j +ℤ r.offset) r.width) (length-run (cell t) (j +ℤ r.offset) r.width))

-- two configurations that share an image share it in the new colours
ShareImage-recoloured : {r g : LocalRule} {colours : List ℕ} {x y : TailConfig} → IsRecoloured colours r g → IsTail r.states x → IsTail r.states y
    → ShareImage r x y → ShareImage g (recoloured_tail colours x) (recoloured_tail colours y)
ShareImage-recoloured {r} {g} {colours} {x} {y} new hx hy share i =
    let j : ℤ = i +ℤ g.offset -ℤ r.offset in
    let e : i +ℤ g.offset ≡ j +ℤ r.offset = omega (arith, ints) in
    image_cell-recoloured new hx i j e ∙ ap (slice_index colours) (share j) ∙ sym (image_cell-recoloured new hy i j e)

-- of two configurations of the recoloured rule that share an image: they are the same if they are in the old letters, in which they share an image too
Same-recoloured : {r g : LocalRule} {colours letters : List ℕ} {x y : TailConfig} → IsRule r → AreInverse r.states colours letters
    → IsRecoloured colours r g
    → IsTail g.states x → IsTail g.states y → ShareImage g x y
    → (IsTail r.states (recoloured_tail letters x) → IsTail r.states (recoloured_tail letters y) → ShareImage r (recoloured_tail letters x) (recoloured_tail letters y)
    → Same (recoloured_tail letters x) (recoloured_tail letters y))
    → Same x y
Same-recoloured {r} {g} {colours} {letters} {x} {y} rule inverse new hx hy share old i =
    let first : IsTail r.states x = rw new.states at hx in
    let second : IsTail r.states y = rw new.states at hy in
    let same = old (IsTail-recoloured (AreInverse-swap inverse) first) (IsTail-recoloured (AreInverse-swap inverse) second) (ShareImage-recoloured (IsRecoloured-back rule inverse new) hx hy share) i in
    sym (inverse.there (cell x i) (cell-below first i))
    ∙ ap (slice_index colours) (sym (cell-recoloured letters first i) ∙ same ∙ cell-recoloured letters second i)
    ∙ inverse.there (cell y i) (cell-below second i)

-- a recoloured rule is injective if the rule is
pub IsInjective-recoloured : (r g : LocalRule) (colours letters : List ℕ) → IsRule r → AreInverse r.states colours letters
    → IsRecoloured colours r g → IsInjective r → IsInjective g
IsInjective-recoloured r g colours letters rule inverse new injective x y hx hy share =
    Same-recoloured rule inverse new hx hy share (injective (recoloured_tail letters x) (recoloured_tail letters y))

-- a recoloured rule is right-closing if the rule is
pub IsRightClosing-recoloured : (r g : LocalRule) (colours letters : List ℕ) → IsRule r → AreInverse r.states colours letters
    → IsRecoloured colours r g → IsRightClosing r → IsRightClosing g
IsRightClosing-recoloured r g colours letters rule inverse new closing x y hx hy share agree =
    Same-recoloured rule inverse new hx hy share
    (λ tx ty s. closing (recoloured_tail letters x) (recoloured_tail letters y) tx ty s (agree.0, λ i l. cell-recoloured letters hx i ∙ ap (slice_index letters) (agree.1 i l) ∙ sym (cell-recoloured letters hy i)))

-- a recoloured rule is left-closing if the rule is
pub IsLeftClosing-recoloured : (r g : LocalRule) (colours letters : List ℕ) → IsRule r → AreInverse r.states colours letters
    → IsRecoloured colours r g → IsLeftClosing r → IsLeftClosing g
IsLeftClosing-recoloured r g colours letters rule inverse new closing x y hx hy share agree =
    Same-recoloured rule inverse new hx hy share
    (λ tx ty s. closing (recoloured_tail letters x) (recoloured_tail letters y) tx ty s (agree.0, λ i l. cell-recoloured letters hx i ∙ ap (slice_index letters) (agree.1 i l) ∙ sym (cell-recoloured letters hy i)))
