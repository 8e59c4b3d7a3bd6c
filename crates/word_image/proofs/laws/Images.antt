-- Images of parts of a word, and of a word that is read backwards.
use Rattle.std.proofs.Common.{◌≡◌, ℕ, ◌+◌, ◌-◌, ◌^◌, ◌<◌, List, length, take, drop, reverse, get_or, slice_index, slice_range, ℤ, pos, ◌+ℤ◌, neg_ℤ, sym, ap, ap₂, subst, ◌∙◌, arith, length-drop, length-take-le, get_or-drop, drop-drop, rules}
use Rattle.std.proofs.lemmas.List.{length-reverse, reverse-reverse, get_or-reverse, drop-take}
use Rattle.std.proofs.lemmas.List.FromFn.{length-map-range_with_len, get_or-map-range_with_len, fill_by_all}
use Rattle.std.proofs.lemmas.List.Elements.{All-take, All-drop, All-map}
use Rattle.std.proofs.lemmas.Int.{ints}
use Rattle.std.proofs.Math.IntN.{neg_ℤ-+ℤ, neg_ℤ-neg_ℤ, +ℤ-neg_ℤ_cancel}
use Rattle.word_image.specs.LocalRules.{LocalRule, IsRule, IsWord, value, word_of, local_map, mirrored}
use Rattle.word_image.specs.Words.{image}
use Rattle.word_image.proofs.laws.Values.{value-below, word_of-value, length-word_of, IsWord-word_of, value-word_of}
use Rattle.word_image.proofs.laws.Lists.{reverse-cut}
use Rattle.word_image.proofs.laws.Words.{length-image, get_or-image, image-by_letters, entry-below}

-- the image of a word without its first n letters is the image without its first n letters
pub image-drop : (r : LocalRule) (n : ℕ) (x : List ℕ) → image r (drop n x) ≡ drop n (image r x)
image-drop r n x =
    let long : length (drop n (image r x)) ≡ length (drop n x) - (r.width - 1) = omega (arith, length-drop n (image r x), length-drop n x, length-image r x) in
    let window : (i : ℕ) → slice_range x (n + i) (n + i + r.width) ≡ slice_range (drop n x) i (i + r.width) = λ i.
    ap₂ (λ (j : ℕ) (y : List ℕ). take j y) (omega arith) (sym (drop-drop i n x)) in
    image-by_letters r (drop n x) (drop n (image r x)) long (λ i l.
    let within : n + i < length x - (r.width - 1) = omega (arith, length-drop n x) in
    get_or-drop n (image r x) i 0 ∙ get_or-image r x (n + i) within ∙ ap (local_map r) (window i))

-- a word read backwards is a word
pub IsWord-reverse : (k : ℕ) (x : List ℕ) → IsWord k x → IsWord k (reverse x)
IsWord-reverse k x h = grind (arith, length-reverse, get_or-reverse)

-- what stands between two places of a list, in the list that is read backwards
pub slice_range-reverse : (x : List ℕ) (i j n : ℕ) → i + n + j ≡ length x → reverse (slice_range (reverse x) i (i + n)) ≡ slice_range x j (j + n)
slice_range-reverse x i j n e =
    let there : i + n - i ≡ n = omega arith in
    let here : n ≡ j + n - j = omega arith in
    ap₂ (λ (m : ℕ) (y : List ℕ). reverse (take m y)) there (reverse-cut (j + n) i x (omega arith)).1
    ∙ ap reverse (reverse-cut j n (take (j + n) x) (length-take-le (j + n) x (omega arith))).0
    ∙ reverse-reverse (drop j (take (j + n) x))
    ∙ drop-take j n x
    ∙ ap (λ m. take m (drop j x)) here

-- the mirrored rule gives on a window what the rule gives on the window read backwards
pub local_map-mirrored : (r : LocalRule) (z : List ℕ) → IsWord r.states z → length z ≡ r.width → local_map (mirrored r) z ≡ local_map r (reverse z)
local_map-mirrored r z h e =
    let below : value r.states z < r.states ^ r.width = subst (λ n. value r.states z < r.states ^ n) e (value-below r.states z h) in
    get_or-map-range_with_len (λ v. local_map r (reverse (word_of r.states r.width v))) 0 (r.states ^ r.width) (value r.states z) (value r.states z) 0 below (omega arith)
    ∙ ap (λ n. local_map r (reverse (word_of r.states n (value r.states z)))) (sym e)
    ∙ ap (λ y. local_map r (reverse y)) (word_of-value r.states z h)

-- the mirrored rule's image of a word read backwards is the image read backwards
pub image-mirrored : {r : LocalRule} → IsRule r → (x : List ℕ) → IsWord r.states x → image (mirrored r) (reverse x) ≡ reverse (image r x)
image-mirrored {r} rule x h =
    let long : length (reverse (image r x)) ≡ length (reverse x) - (r.width - 1) = omega (arith, length-reverse (image r x), length-reverse x, length-image r x) in
    image-by_letters (mirrored r) (reverse x) (reverse (image r x)) long (λ i l.
    let within : i < length (image r x) = omega (arith, length-reverse (image r x)) in
    let j : ℕ = length (image r x) - 1 - i in
    let rest : i + r.width + j ≡ length x = omega (arith, length-image r x) in
    let window = slice_range (reverse x) i (i + r.width) in
    let word = All-take (λ a. a < r.states) (i + r.width - i) (drop i (reverse x)) (All-drop (λ a. a < r.states) i (reverse x) (IsWord-reverse r.states x h)) in
    let window_long : length window ≡ r.width = length-take-le (i + r.width - i) (drop i (reverse x)) (omega (arith, length-drop i (reverse x), length-reverse x)) ∙ omega arith in
    get_or-reverse (image r x) i 0 within
    ∙ get_or-image r x j (omega (arith, length-image r x))
    ∙ ap (local_map r) (sym (slice_range-reverse x i j r.width rest))
    ∙ sym (local_map-mirrored r window word window_long))

-- the mirrored rule of an accepted rule is accepted
pub IsRule-mirrored : {r : LocalRule} → IsRule r → IsRule (mirrored r)
IsRule-mirrored rule = search (rules, ints, length-map-range_with_len, entry-below, All-map)

-- mirrored twice, a rule is itself
pub mirrored-mirrored : {r : LocalRule} → IsRule r → mirrored (mirrored r) ≡ r
mirrored-mirrored {r} rule =
    let back : (v : ℕ) → v < r.states ^ r.width → get_or r.table v 0 ≡ local_map (mirrored r) (reverse (word_of r.states r.width v)) = λ v l.
    let z = word_of r.states r.width v in
    let word = IsWord-reverse r.states z (IsWord-word_of r.states r.width v l) in
    sym (local_map-mirrored r (reverse z) word (length-reverse z ∙ length-word_of r.states r.width v)
    ∙ ap (local_map r) (reverse-reverse z)
    ∙ ap (slice_index r.table) (value-word_of r.states r.width v l)) in
    let table = fill_by_all (λ v. local_map (mirrored r) (reverse (word_of r.states r.width v))) r.table (r.states ^ r.width) 0 rule.entries back in
    let offset = neg_ℤ-+ℤ (neg_ℤ (r.offset +ℤ pos (r.width - 1))) (pos (r.width - 1))
    ∙ ap (λ o. o +ℤ neg_ℤ (pos (r.width - 1))) (neg_ℤ-neg_ℤ (r.offset +ℤ pos (r.width - 1)))
    ∙ +ℤ-neg_ℤ_cancel r.offset (pos (r.width - 1)) in
    ap₂ (λ (o : ℤ) (t : List ℕ). record { states = r.states; width = r.width; offset = o; table = t }) offset (sym table)
