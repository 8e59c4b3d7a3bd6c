-- Colours and their letters: every permutation has both, and words come back.
use Rattle.std.proofs.Common.{◌≡◌, ℕ, ◌<◌, List, length, take, map, slice_index, sym, ap, ◌∙◌, subst, arith, length-take-le, get_or-take}
use Rattle.word_image.proofs.Common.{range_with_len, length-map-range_with_len, get_or-map-range_with_len, All-map, All-from_get_or, IsWord, all_taken, chosen_below}
use Rattle.rule_algebra.specs.Algebra.{IsRecolouring, recoloured}
use Rattle.rule_algebra.proofs.laws.Recolouring.{map-agree, recoloured_back}
use Rattle.rule_classes.specs.Colourings.{AreInverse}

-- letters and colours that undo each other do so the other way round
pub AreInverse-swap : {k : ℕ} {colours letters : List ℕ} → AreInverse k colours letters → AreInverse k letters colours
AreInverse-swap {k} {colours} {letters} h = record { colours_long = h.letters_long; letters_long = h.colours_long; colour = h.letter; letter = h.colour; back = h.there; there = h.back }

-- every permutation has its letters
pub inverse_letters : {k : ℕ} {colours : List ℕ} → IsRecolouring k colours → (letters : List ℕ) × AreInverse k colours letters
inverse_letters {k} {colours} h =
    let below : (a : ℕ) → a < k → slice_index colours a < k = λ a l. h.word a 0 (omega (arith, h.long)) in
    let (f, is) = chosen_below ℕ (λ y a. (a < k) × (slice_index colours a ≡ y)) k 0 (λ y l. let (a, inside, at) = all_taken k (slice_index colours) below h.different y l in (a, (inside, at))) in
    let letters : List ℕ = map f (range_with_len 0 k) in
    let at : (y : ℕ) → y < k → slice_index letters y ≡ f y = λ y l. get_or-map-range_with_len f 0 k y y 0 l (omega arith) in
    let letter : (a : ℕ) → a < k → slice_index letters a < k = λ a l. omega (arith, at a l, (is a l).0) in
    let there : (a : ℕ) → a < k → slice_index colours (slice_index letters a) ≡ a = λ a l. ap (slice_index colours) (at a l) ∙ (is a l).1 in (
      letters,
      record {
        colours_long = omega (arith, h.long);
        letters_long = omega (arith, length-map-range_with_len f 0 k);
        colour = below;
        letter = letter;
        there = there;
        back = λ a l. h.different (slice_index letters (slice_index colours a)) a (letter _ (below a l)) l (there _ (below a l));
      },
    )

-- the first k colours are a permutation
pub IsRecolouring-take : {k : ℕ} {colours letters : List ℕ} → AreInverse k colours letters → IsRecolouring k (take k colours)
IsRecolouring-take {k} {colours} {letters} h =
    let long : length (take k colours) ≡ k = length-take-le k colours h.colours_long in
    let at : (a : ℕ) → a < k → slice_index (take k colours) a ≡ slice_index colours a = λ a l. get_or-take k colours a 0 l in
    record {
      word = All-from_get_or (λ a. a < k) (take k colours) 0 (λ a l. let here : a < k = omega arith in subst (λ c. c < k) (sym (at a here)) (h.colour a here));
      long = long;
      different = λ a b la lb e. sym (h.back a la) ∙ ap (slice_index letters) (sym (at a la) ∙ e ∙ at b lb) ∙ h.back b lb;
    }

-- the first k colours say the same of words as all do
pub recoloured-take : {k : ℕ} (colours w : List ℕ) → IsWord k w → recoloured (take k colours) w ≡ recoloured colours w
recoloured-take {k} colours w word =
    map-agree (slice_index (take k colours)) (slice_index colours) w (λ i l. get_or-take k colours _ 0 (word i 0 l))

-- a recoloured word is a word
pub IsWord-colours : {k : ℕ} {colours letters : List ℕ} → AreInverse k colours letters → (w : List ℕ) → IsWord k w → IsWord k (recoloured colours w)
IsWord-colours {k} {colours} {letters} h w word = All-map (λ a. a < k) (slice_index colours) w (λ i d l. h.colour _ (word i d l))

-- a recoloured word comes back
pub recoloured-back : {k : ℕ} {colours letters : List ℕ} → AreInverse k colours letters → (w : List ℕ) → IsWord k w
    → recoloured colours (recoloured letters w) ≡ w
recoloured-back {colours = colours} {letters = letters} h w word = recoloured_back colours letters h.there w word
