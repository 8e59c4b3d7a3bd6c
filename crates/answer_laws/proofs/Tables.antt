-- A rule is widened, trimmed, composed and recoloured in one way.
use Rattle.std.proofs.Common.{◌≡◌, ℕ, ◌^◌, ◌<◌, ◌≤◌, List, [], ◌∷◌, length, get_or, ℤ, pos, ◌+ℤ◌, neg_ℤ, sym, ap, ap₂, ◌∙◌, subst, arith}
use Rattle.word_image.proofs.Common.{same_number_lists, ints, LocalRule, IsRule, IsWord, local_map, value, word_of, image, rule_from_parts, length-word_of, IsWord-word_of, value-word_of}
use Rattle.std.proofs.lemmas.List.{take_all}
use Rattle.tail_config.proofs.Common.{TailConfig, IsTail, cells, image_cell, config_of, IsWord-zero, cells-middle}
use Rattle.rule_algebra.specs.Algebra.{KeepsImages, IsTrimmed, IsWidened, IsComposed, IsRecolouring, IsRecoloured}
use Rattle.rule_classes.proofs.laws.Colours.{inverse_letters}
use Rattle.rule_classes.proofs.laws.Recoloured.{local_map-back}

-- rules of one shape that give the same on each window are one
pub same_letters : {g h : LocalRule} → IsRule g → IsRule h → g.states ≡ h.states → g.width ≡ h.width → g.offset ≡ h.offset
    → ((w : List ℕ) → IsWord g.states w → length w ≡ g.width → local_map g w ≡ local_map h w) → g ≡ h
same_letters {g} {h} first second states width offset same =
    let long : length g.table ≡ length h.table = first.entries ∙ ap₂ (λ (k m : ℕ). k ^ m) states width ∙ sym second.entries in
    let each : (v : ℕ) → v < length g.table → get_or g.table v 0 ≡ get_or h.table v 0 = λ v l.
    let below : v < g.states ^ g.width = omega (arith, first.entries) in
    let w : List ℕ = word_of g.states g.width v in
    let read : value g.states w ≡ v = value-word_of g.states g.width v below in
    ap (λ i. get_or g.table i 0) (sym read) ∙ same w (IsWord-word_of g.states g.width v below) (length-word_of g.states g.width v)
    ∙ ap (λ k. get_or h.table (value k w) 0) (sym states) ∙ ap (λ i. get_or h.table i 0) read in
    rule_from_parts states width offset (same_number_lists g.table h.table long each)

-- the word with zeros around it
abbrev around : List ℕ → TailConfig
around w = config_of (0 ∷ []) w (0 ∷ [])

-- what a rule that keeps the images of r gives on a window is a cell of an image under r
keeps_window : {r : LocalRule} (g : LocalRule) → IsRule r → KeepsImages r g → (w : List ℕ) → IsWord r.states w → length w ≡ g.width
    → local_map g w ≡ image_cell r (around w) (neg_ℤ g.offset)
keeps_window {r} g rule keeps w word long =
    let some : 0 < r.states = let least = rule.shape.least_states in omega arith in
    let tail : IsTail r.states (around w) = record {
      left_some = omega arith;
      right_some = omega arith;
      left_word = IsWord-zero some;
      middle_word = word;
      right_word = IsWord-zero some;
    } in
    let at : neg_ℤ g.offset +ℤ g.offset ≡ pos 0 = omega (arith, ints) in
    let window : cells (around w) (neg_ℤ g.offset +ℤ g.offset) g.width ≡ w = ap₂ (λ (i : ℤ) (n : ℕ). cells (around w) i n) at (sym long) ∙ cells-middle (around w) in
    sym (ap (local_map g) window) ∙ keeps (around w) (neg_ℤ g.offset) tail

-- rules of one shape that keep the images of a rule are one
same_images : {r g h : LocalRule} → IsRule r → IsRule g → IsRule h → g.states ≡ r.states → h.states ≡ r.states → g.width ≡ h.width
    → g.offset ≡ h.offset
    → KeepsImages r g → KeepsImages r h → g ≡ h
same_images {r} {g} {h} rule first second states states' width offset keeps keeps' =
    same_letters first second (states ∙ sym states') width offset (λ w word long.
    let letters : IsWord r.states w = subst (λ k. IsWord k w) states word in
    keeps_window g rule keeps w letters long ∙ ap (λ i. image_cell r (around w) (neg_ℤ i)) offset ∙ sym (keeps_window h rule keeps' w letters (long ∙ width)))

-- a rule is widened in one way
pub IsWidened-unique : {r g h : LocalRule} {m : ℕ} → IsRule r → IsRule g → IsRule h → IsWidened r m g → IsWidened r m h → g ≡ h
IsWidened-unique rule first second here there = grind (arith, same_images)

-- a rule is trimmed in one way
pub IsTrimmed-unique : {r g h : LocalRule} → IsRule r → IsRule g → IsRule h → IsTrimmed r g → IsTrimmed r h → g ≡ h
IsTrimmed-unique {r} {g} {h} rule first second here there =
    let firsts : here.first ≡ there.first =
    omega (arith, here.most_firsts there.first (omega (arith, there.two_left)) there.firsts_ignored, there.most_firsts here.first (omega (arith, here.two_left)) here.firsts_ignored) in
    let lasts : here.last ≡ there.last =
    omega (arith, here.most_lasts there.last (omega (arith, there.two_left, firsts)) there.lasts_ignored, there.most_lasts here.last (omega (arith, here.two_left, firsts)) here.lasts_ignored) in
    same_images rule first second here.states there.states (omega (arith, here.width, there.width, firsts, lasts))
    (here.offset ∙ ap (λ n. r.offset +ℤ pos n) firsts ∙ sym there.offset) here.images there.images

-- the image of a window is the letter that the rule gives on it
image-window : (g : LocalRule) (w : List ℕ) → 1 ≤ g.width → length w ≡ g.width → image g w ≡ local_map g w ∷ []
image-window g w some long = grind (arith, take_all)

-- rules are composed in one way
pub IsComposed-unique : {r s g h : LocalRule} → IsRule g → IsRule h → IsComposed r s g → IsComposed r s h → g ≡ h
IsComposed-unique {r} {s} {g} {h} first second here there = grind (arith, same_letters, image-window)

-- a rule is recoloured in one way
pub IsRecoloured-unique : {r g h : LocalRule} {colours : List ℕ} → IsRule g → IsRule h → IsRecolouring r.states colours → g.offset ≡ h.offset
    → IsRecoloured colours r g → IsRecoloured colours r h → g ≡ h
IsRecoloured-unique {r} {g} {h} {colours} first second permutes offset here there =
    let inverse = inverse_letters permutes in
    same_letters first second (here.states ∙ sym there.states) (here.width ∙ sym there.width) offset (λ w word long.
    let letters : IsWord r.states w = subst (λ k. IsWord k w) here.states word in
    local_map-back inverse.1 here w letters (long ∙ here.width) ∙ sym (local_map-back inverse.1 there w letters (long ∙ here.width)))
