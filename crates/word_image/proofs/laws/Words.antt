-- Images and preimages, one letter at a time.
use Rattle.std.proofs.lemmas.Grind.{common_steps}
use Rattle.std.proofs.Common.{◌≡◌, ℕ, ◌+◌, ◌-◌, ◌<◌, ◌≤◌, List, [], ◌∷◌, ◌++◌, length, take, drop, get_or, slice_index, slice_range, true, refl, sym, ap, ap₂, ◌∙◌, arith, length-drop, nat_lt, length-take, length-take-le, get_or-take, take-take, take_all}
use Rattle.std.specs.List.{range_with_len, list_all}
use Rattle.std.proofs.lemmas.Bool.{cases_lt}
use Rattle.std.proofs.lemmas.Bool.Decides.{Decides-by_and, Decides-ltb}
use Rattle.std.proofs.lemmas.List.{length_push, same_from_push, nil_from_length, drop-append-le, drop-take, take_more, get_or_past}
use Rattle.std.proofs.Math.Seq.{take-append_seam}
use Rattle.std.proofs.lemmas.List.FromFn.{length-map-range_with_len, get_or-map-range_with_len, fill_by_all}
use Rattle.std.proofs.lemmas.List.Elements.{All-take, All-map}
use Rattle.word_image.specs.LocalRules.{LocalRule, IsRule, IsWord, local_map}
use Rattle.word_image.specs.Words.{image, IsPreimage}

-- a list that is not empty is what stands before its last element, and that element
pub split_last : (y : List ℕ) → 0 < length y → y ≡ take (length y - 1) y ++ get_or y (length y - 1) 0 ∷ []
split_last y h = grind (arith, take_all, take_more)

-- what the table holds is a letter
pub entry-below : {r : LocalRule} → IsRule r → (v : ℕ) → slice_index r.table v < r.states
entry-below rule v = grind (arith, get_or_past, cases_lt)

-- a list is a word where the test of its letters says so
pub word_by_test : (k : ℕ) (w : List ℕ) → list_all (λ a. nat_lt a k) w ≡ true → IsWord k w
word_by_test k w = (Decides-by_and (λ a. nat_lt a k) (λ a. a < k) (list_all (λ a. nat_lt a k)) (λ a. Decides-ltb a k) refl (λ a v. refl) w).0

-- a word over k letters is a word over more
pub IsWord-le : (j k : ℕ) (w : List ℕ) → j ≤ k → IsWord j w → IsWord k w
IsWord-le j k w h word = λ i d within. omega (arith, word i d within)

-- an image is a word
pub IsWord-image : {r : LocalRule} → IsRule r → (x : List ℕ) → IsWord r.states (image r x)
IsWord-image {r} rule x =
    All-map (λ a. a < r.states) (λ i. local_map r (slice_range x i (i + r.width))) (range_with_len 0 (length x - (r.width - 1)))
    (λ i d l. entry-below rule _)

-- an image has m - 1 letters fewer
pub length-image : (r : LocalRule) (x : List ℕ) → length (image r x) ≡ length x - (r.width - 1)
length-image r x = length-map-range_with_len (λ i. local_map r (slice_range x i (i + r.width))) 0 (length x - (r.width - 1))

-- a word with no window has the empty image
pub image-short : (r : LocalRule) (x : List ℕ) → length x ≤ r.width - 1 → image r x ≡ []
image-short r x h = nil_from_length (image r x) (omega (arith, length-image r x))

-- a letter of an image is what the rule gives on the window there
pub get_or-image : (r : LocalRule) (x : List ℕ) (i : ℕ) → i < length x - (r.width - 1)
    → get_or (image r x) i 0 ≡ local_map r (slice_range x i (i + r.width))
get_or-image r x i h = get_or-map-range_with_len (λ j. local_map r (slice_range x j (j + r.width))) 0 (length x - (r.width - 1)) i i 0 h (omega arith)

-- a list is an image if it has the image's length, and what the rule gives on each window
pub image-by_letters : (r : LocalRule) (x w : List ℕ) → length w ≡ length x - (r.width - 1)
    → ((i : ℕ) → i < length w → get_or w i 0 ≡ local_map r (slice_range x i (i + r.width))) → image r x ≡ w
image-by_letters r x w e h =
    sym (fill_by_all (λ i. local_map r (slice_range x i (i + r.width))) w (length x - (r.width - 1)) 0 e (λ i l. h i (omega arith)))

-- the image of the first n letters of a word is the beginning of its image
pub image-take : {r : LocalRule} → IsRule r → (n : ℕ) (x : List ℕ) → image r (take n x) ≡ take (n - (r.width - 1)) (image r x)
image-take {r} rule n x =
    let long : length (take (n - (r.width - 1)) (image r x)) ≡ length (take n x) - (r.width - 1) =
    omega (arith, length-take (n - (r.width - 1)) (image r x), length-take n x, length-image r x) in
    let window : (i : ℕ) → i + r.width ≤ n → slice_range x i (i + r.width) ≡ slice_range (take n x) i (i + r.width) = λ i l.
    let split : i + (n - i) ≡ n = omega arith in
    sym (ap (take (i + r.width - i)) (ap (λ j. drop i (take j x)) (sym split) ∙ drop-take i (n - i) x) ∙ take-take (i + r.width - i) (n - i) (drop i x) (omega arith)) in
    image-by_letters r (take n x) (take (n - (r.width - 1)) (image r x)) long (λ i l.
    let fore : i < n - (r.width - 1) = omega (arith, length-take n x) in
    let within : i < length x - (r.width - 1) = omega (arith, length-take n x) in
    get_or-take (n - (r.width - 1)) (image r x) i 0 fore ∙ get_or-image r x i within ∙ ap (local_map r) (window i (omega arith)))

-- one more letter at the end of a word is one more letter at the end of its image
pub image-snoc : {r : LocalRule} → IsRule r → (x : List ℕ) (a : ℕ) → r.width - 1 ≤ length x
    → image r (x ++ a ∷ []) ≡ image r x ++ local_map r (drop (length x - (r.width - 1)) x ++ a ∷ []) ∷ []
image-snoc {r} rule x a h =
    let n : ℕ = length x - (r.width - 1) in
    let y : List ℕ = x ++ a ∷ [] in
    let more = length_push x a in
    let long = length-image r y in
    let fore : length (image r y) - 1 ≡ n = omega arith in
    let front : take n (image r y) ≡ image r x = sym (image-take rule (length x) y) ∙ ap (image r) (take-append_seam x (a ∷ [])) in
    let window = ap (take (n + r.width - n)) (drop-append-le n x (a ∷ []) (omega arith))
    ∙ take_all (n + r.width - n) (drop n x ++ a ∷ []) (omega (arith, length_push (drop n x) a, length-drop n x)) in
    split_last (image r y) (omega arith)
    ∙ ap (λ i. take i (image r y) ++ get_or (image r y) i 0 ∷ []) fore
    ∙ ap₂ (λ (u : List ℕ) (c : ℕ). u ++ c ∷ []) front (get_or-image r y n (omega arith) ∙ ap (local_map r) window)

-- each word of m - 1 letters is a preimage of the empty word
pub IsPreimage-empty : (r : LocalRule) (x : List ℕ) → IsWord r.states x → length x ≡ r.width - 1 → IsPreimage r [] x
IsPreimage-empty r x h e = record { word = h; long = omega arith; maps = image-short r x (omega arith) }

-- y is a preimage of w and one more letter, and its last window gives a
pub record IsLongerPreimage (r : LocalRule) (w : List ℕ) (a : ℕ) (y : List ℕ) : Type 0 where
  pub before : List ℕ
  pub letter : ℕ
  pub splits : y ≡ before ++ letter ∷ []
  pub preimage : IsPreimage r w before
  pub within : letter < r.states
  pub gives : local_map r (drop (length w) before ++ letter ∷ []) ≡ a

-- a preimage of a longer word is a preimage of the word and one more letter
pub IsPreimage-snoc : {r : LocalRule} → IsRule r → (w : List ℕ) (a : ℕ) (y : List ℕ) → IsPreimage r (w ++ a ∷ []) y → IsLongerPreimage r w a y
IsPreimage-snoc {r} rule w a y p =
    let n : ℕ = length y - 1 in
    let long : length y ≡ length w + 1 + (r.width - 1) = p.long ∙ ap (λ j. j + (r.width - 1)) (length_push w a) in
    let splits : y ≡ take n y ++ get_or y n 0 ∷ [] = split_last y (omega arith) in
    let before_long : length (take n y) ≡ n = length-take-le n y (omega arith) in
    let start : length (take n y) - (r.width - 1) ≡ length w = omega arith in
    let ends = sym (image-snoc rule (take n y) (get_or y n 0) (omega arith)) ∙ ap (image r) (sym splits) ∙ p.maps in
    let parts : (image r (take n y) ≡ w) × (local_map r (drop (length (take n y) - (r.width - 1)) (take n y) ++ get_or y n 0 ∷ []) ≡ a) = same_from_push _ _ _ _ ends in
    record {
      before = take n y;
      letter = get_or y n 0;
      splits = splits;
      preimage = record { word = All-take (λ b. b < r.states) n y p.word; long = omega arith; maps = parts.0 };
      within = p.word n 0 (omega arith);
      gives = ap (λ i. local_map r (drop i (take n y) ++ get_or y n 0 ∷ [])) (sym start) ∙ parts.1;
    }

-- a preimage of a word and one more letter, whose last window gives a, is a preimage of the longer word
pub IsPreimage-push : {r : LocalRule} {w x : List ℕ} → IsRule r → IsPreimage r w x → (a b : ℕ) → b < r.states
    → local_map r (drop (length w) x ++ b ∷ []) ≡ a → IsPreimage r (w ++ a ∷ []) (x ++ b ∷ [])
IsPreimage-push rule p a b l e = grind (arith, common_steps, image-snoc)
