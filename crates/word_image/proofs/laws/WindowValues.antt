-- The values of the parts of a window.
use Rattle.std.proofs.Common.{◌≡◌, ℕ, ◌+◌, ◌-◌, ◌/◌, ◌%◌, ◌^◌, ◌<◌, ◌≤◌, ◌↔◌, List, length, take, drop, get_or, slice_index, slice_range, ℤ, ◌-ℤ◌, sym, ap, ap₂, ◌∙◌, arith, length-take-le}
use Rattle.std.proofs.Math.Nat.{pow-le-pow_right}
use Rattle.std.proofs.lemmas.List.{drop-take}
use Rattle.std.proofs.lemmas.List.Elements.{All-take}
use Rattle.word_image.specs.LocalRules.{LocalRule, IsRule, IsWord, value, word_of}
use Rattle.word_image.specs.Words.{image}
use Rattle.word_image.proofs.laws.Values.{value-below, value-take, value-drop, word_of-value, length-word_of, IsWord-word_of, value-word_of}
use Rattle.word_image.proofs.laws.Graphs.{value-front}
use Rattle.word_image.proofs.laws.WindowParts.{some_letter}
use Rattle.word_image.proofs.laws.Words.{length-image, get_or-image}

-- the first n letters of the word of a number
pub value-take-word_of : (k n m v : ℕ) → n ≤ m → v < k ^ m → value k (take n (word_of k m v)) ≡ v / k ^ (m - n)
value-take-word_of k n m v h below = grind (arith, length-word_of, value-take, value-word_of, IsWord-word_of)

-- the value of n letters of a word from place i on
value-slice_range-word_of : (k i n m v : ℕ) → i + n ≤ m → v < k ^ m → value k (slice_range (word_of k m v) i (i + n)) ≡ v / k ^ (m - (i + n)) % k ^ n
value-slice_range-word_of k i n m v h below =
    let w : List ℕ = word_of k m v in
    let long : length (take (i + n) w) ≡ i + n = length-take-le (i + n) w (omega (arith, length-word_of k m v)) in
    let wide : i + n - i ≡ n = omega arith in
    let left : length (take (i + n) w) - i ≡ n = omega arith in
    ap (λ j. value k (take j (drop i w))) wide
    ∙ ap (value k) (sym (drop-take i n w))
    ∙ value-drop k i (take (i + n) w) (All-take (λ a. a < k) (i + n) w (IsWord-word_of k m v below)) (omega arith)
    ∙ ap₂ (λ (a j : ℕ). a % k ^ j) (value-take-word_of k (i + n) m v h below) left

-- what is a difference of the two ends of each word is one of the ends of the word's value
pub by_ends : (k n : ℕ) (number : List ℕ → ℤ) (phi : ℕ → ℤ)
    → ((w : List ℕ) → IsWord k w → length w ≡ n + 1 → number w ≡ phi (value k (take n w)) -ℤ phi (value k (drop 1 w)))
    ↔ ((v : ℕ) → v < k ^ (n + 1) → number (word_of k (n + 1) v) ≡ phi (v / k) -ℤ phi (v % k ^ n))
by_ends k n number phi =
    grind (arith, length-word_of, value-word_of, value-front, word_of-value, value-below, IsWord-word_of)

-- fewer letters have no more values
pub fewer_values : {r : LocalRule} → IsRule r → (i n : ℕ) → r.states ^ n ≤ 256 → i ≤ n → r.states ^ i ≤ 256
fewer_values {r} rule i n fits l = let grows : r.states ^ i ≤ r.states ^ n = pow-le-pow_right (some_letter rule) l in omega arith

-- the image of a window of m + n - 1 letters has n letters
pub length-image-word_of : {r : LocalRule} → IsRule r → (n v : ℕ) → length (image r (word_of r.states (r.width + n - 1) v)) ≡ n
length-image-word_of rule n v = grind (arith, length-image, length-word_of)

-- letter i of the image of a window of m + n - 1 letters, by the window's value
pub get_or-image-word_of : {r : LocalRule} → IsRule r → (n i v : ℕ) → i < n → v < r.states ^ (r.width + n - 1)
    → slice_index r.table (v / r.states ^ (n - 1 - i) % r.states ^ r.width) ≡ get_or (image r (word_of r.states (r.width + n - 1) v)) i 0
get_or-image-word_of rule n i v l below = grind (arith, length-word_of, value-slice_range-word_of, get_or-image)
