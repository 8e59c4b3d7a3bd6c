-- Words, rules and images in new colours.
use Rattle.std.proofs.Common.{◌≡◌, ◌≢◌, ℕ, ◌+◌, ◌-◌, ◌<◌, List, length, take, drop, get_or, slice_index, slice_range, refl, sym, ap, ◌∙◌, arith, length-drop, length-take-le, map, map-id, ext_get_or}
use Rattle.std.proofs.lemmas.Simd.{map-map}
use Rattle.word_image.proofs.Common.{some_letter, cases_lt, length-map, take-map, drop-map, get_or-map, get_or_past, All-map, All-take, All-drop, LocalRule, IsRule, IsWord, local_map, image, length-image, get_or-image, image-by_letters}
use Rattle.rule_algebra.specs.Algebra.{IsRecolouring, IsRecoloured, recoloured}
use Rattle.rule_algebra.specs.MadeImages.{RecoloursImages}
use Rattle.rule_algebra.specs.Tables.{AreOldLetters}
use Rattle.rule_algebra.specs.Tabulated.{table_by}
use Rattle.rule_algebra.proofs.laws.Tables.{length-table_by, IsRule-table_by, table_by-at}

-- the first n colours are letters, and each is none of those before it
abbrev pub DifferentBelow : ℕ → List ℕ → ℕ → Type 0
DifferentBelow k colours n = (a : ℕ) → a < n → (get_or colours a 0 < k) × ((b : ℕ) → b < a → get_or colours b 0 ≢ get_or colours a 0)

-- what stands in a word, or is 0, is a letter
pub colour-below : (k : ℕ) (colours : List ℕ) → IsWord k colours → 0 < k → (a : ℕ) → slice_index colours a < k
colour-below k colours word some a = grind (arith, get_or_past, cases_lt)

-- a recoloured word is a word
pub IsWord-recoloured : (k : ℕ) (colours : List ℕ) → IsWord k colours → 0 < k → (w : List ℕ) → IsWord k (recoloured colours w)
IsWord-recoloured k colours word some w = All-map (λ a. a < k) (slice_index colours) w (λ i d l. colour-below k colours word some _)

-- two functions that agree on the letters of a word change the word in the same way
pub map-agree : (f g : ℕ → ℕ) (w : List ℕ) → ((i : ℕ) → i < length w → f (get_or w i 0) ≡ g (get_or w i 0)) → map f w ≡ map g w
map-agree f g w same = ext_get_or 0 _ _ (length-map w f ∙ sym (length-map w g)) (λ i l.
    let within : i < length w = omega (arith, length-map w f) in
    get_or-map f w i 0 0 within ∙ same i within ∙ sym (get_or-map g w i 0 0 within))

-- a word comes back, where each letter does
pub recoloured_back : {k : ℕ} (letters colours : List ℕ) → ((a : ℕ) → a < k → slice_index letters (slice_index colours a) ≡ a) → (w : List ℕ)
    → IsWord k w → recoloured letters (recoloured colours w) ≡ w
recoloured_back letters colours back w word =
    map-map (slice_index letters) (slice_index colours) w
    ∙ map-agree (λ a. slice_index letters (slice_index colours a)) (λ a. a) w (λ i l. back _ (word i 0 l)) ∙ map-id w

-- the new colour of what the rule gives on a window in its old letters
abbrev pub new_colour : LocalRule → List ℕ → List ℕ → List ℕ → ℕ
new_colour r colours letters w = slice_index colours (local_map r (recoloured letters w))

-- the rule that gives the new colours
abbrev pub recoloured_rule : LocalRule → List ℕ → List ℕ → LocalRule
recoloured_rule r colours letters = record { states = r.states; width = r.width; offset = r.offset; table = table_by r.states r.width (new_colour r colours letters) }

-- the recoloured rule is accepted
pub IsRule-recoloured : {r : LocalRule} (colours letters : List ℕ) → IsRule r → IsWord r.states colours → IsRule (recoloured_rule r colours letters)
IsRule-recoloured {r} colours letters rule word =
    IsRule-table_by r.states r.width r.offset (new_colour r colours letters) rule.shape (λ w. colour-below r.states colours word (some_letter rule) _)

-- the recoloured rule gives the new colours
pub IsRecoloured-rule : {r : LocalRule} {colours letters : List ℕ} → IsRule r → IsRecolouring r.states colours
    → AreOldLetters r.states colours r.states letters
    → IsRecoloured colours r (recoloured_rule r colours letters)
IsRecoloured-rule {r} {colours} {letters} rule h old = record {
  states = refl;
  width = refl;
  entries = length-table_by r.states r.width (new_colour r colours letters);
  letters = λ w word long.
      table_by-at r.states r.width (new_colour r colours letters) (recoloured colours w) (IsWord-recoloured r.states colours h.word (some_letter rule) w) (length-map w (slice_index colours) ∙ long)
      ∙ ap (λ x. slice_index colours (local_map r x)) (recoloured_back letters colours old.back w word);
}

-- the images of recoloured words are the recoloured images
pub RecoloursImages-recoloured : {r g : LocalRule} {colours : List ℕ} → IsRule r → IsRecoloured colours r g → RecoloursImages colours r g
RecoloursImages-recoloured {r} {g} {colours} rule new = λ x word.
    let y : List ℕ = recoloured colours x in
    let shape = new.width in
    let here : length y ≡ length x = length-map x (slice_index colours) in
    let letters : length (recoloured colours (image r x)) ≡ length (image r x) = length-map (image r x) (slice_index colours) in
    let old : length (image r x) ≡ length x - (r.width - 1) = length-image r x in
    image-by_letters g y (recoloured colours (image r x)) (omega arith) (λ i l.
    let window : List ℕ = slice_range x i (i + r.width) in
    let long : length window ≡ r.width = length-take-le (i + r.width - i) (drop i x) (omega (arith, length-drop i x)) ∙ omega arith in
    let cut : slice_range y i (i + r.width) ≡ recoloured colours window = ap (take (i + r.width - i)) (drop-map (slice_index colours) i x) ∙ take-map (slice_index colours) (i + r.width - i) (drop i x) in
    get_or-map (slice_index colours) (image r x) i 0 0 (omega arith)
    ∙ ap (slice_index colours) (get_or-image r x i (omega arith))
    ∙ sym (new.letters window (All-take (λ a. a < r.states) (i + r.width - i) (drop i x) (All-drop (λ a. a < r.states) i x word)) long)
    ∙ ap (local_map g) (sym cut)
    ∙ ap (λ n. local_map g (slice_range y i (i + n))) (sym shape))
