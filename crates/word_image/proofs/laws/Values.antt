-- Words and their values: each word of n letters is one number below k ^ n.
use Rattle.std.proofs.lemmas.Grind.{common_steps}
use Rattle.std.proofs.Common.{◌≡◌, ℕ, zero, suc, ◌+◌, ◌-◌, ◌*◌, ◌/◌, ◌%◌, ◌^◌, ◌<◌, ◌≤◌, List, [], ◌∷◌, ◌++◌, length, take, drop, get_or, refl, sym, ap, ap₂, ◌∙◌, arith, length-append, length-drop, take-append-drop, add-mul, mul_assoc, mul-one, zero-mul, one-mul, pow-suc, mod-lt, length-take-le, replicate, pos_of_ne-zero, pow-add, div-add-mod'}
use Rattle.std.proofs.Math.Nat.{pow-zero, pow-le-pow_right}
use Rattle.std.proofs.lemmas.Nat.{mul-add-lt, same_from_place, div_below, div-mul-add, mod-mul-add}
use Rattle.std.proofs.lemmas.List.{nil_from_length, take_more}
use Rattle.std.proofs.lemmas.List.Elements.{All-nil, All-head, All-tail, All-take}
use Rattle.word_image.specs.LocalRules.{IsWord, value, word_of}

-- the value of two words in a row
pub value-append : (k : ℕ) (x y : List ℕ) → value k (x ++ y) ≡ value k x * k ^ length y + value k y
value-append k [] y = omega (arith, zero-mul (k ^ length y))
value-append k (a ∷ x) y = grind (arith, length-append, pow-add, mul_assoc, add-mul, value-append k x y)

-- the value of a word with one more letter at the end
pub value-snoc : (k : ℕ) (w : List ℕ) (a : ℕ) → value k (w ++ a ∷ []) ≡ value k w * k + a
value-snoc k w a = grind (arith, value-append, pow-suc, pow-zero, one-mul, mul-one)

-- a word of n letters is a number below k ^ n
pub value-below : (k : ℕ) (w : List ℕ) → IsWord k w → value k w < k ^ length w
value-below k [] h = rw pow-zero (omega arith)
value-below k (a ∷ w) h =
    let bound = mul-add-lt a (k ^ length w) (value k w) k (All-head (λ a. a < k) a w h) (value-below k w (All-tail (λ a. a < k) a w h)) in
    let power = pow-suc k (length w) in
    omega arith

-- two words of one length with one value are one word
pub value-injective : (k : ℕ) (x y : List ℕ) → IsWord k x → IsWord k y → length x ≡ length y → value k x ≡ value k y → x ≡ y
value-injective k [] y h g e f = sym (nil_from_length y (sym e))
value-injective k (a ∷ x) [] h g e f = absurd (omega arith)
value-injective k (a ∷ x) (b ∷ y) h g e f =
    let long : length x ≡ length y = omega arith in
    let below_x = value-below k x (All-tail (λ a. a < k) a x h) in
    let parts = same_from_place a (value k x) b (value k y) (k ^ length x) below_x (rw long (value-below k y (All-tail (λ a. a < k) b y g))) (f ∙ ap (λ n. b * k ^ n + value k y) (sym long)) in
    ap₂ (λ (c : ℕ) (z : List ℕ). c ∷ z) parts.0 (value-injective k x y (All-tail (λ a. a < k) a x h) (All-tail (λ a. a < k) b y g) long parts.1)

-- the word of a number has the length that is asked for
pub length-word_of : (k n v : ℕ) → length (word_of k n v) ≡ n
length-word_of k zero v = refl
length-word_of k (suc n) v = ap suc (length-word_of k n (v % k ^ n))

-- where there is a number below k ^ (n + 1), k ^ n is not 0
power_positive : (k n v : ℕ) → v < k ^ suc n → 0 < k ^ n
power_positive k n v l = grind (arith, pos_of_ne-zero, pow-suc, zero-mul)

-- the letters of the word of a number below k ^ n are letters
pub IsWord-word_of : (k n v : ℕ) → v < k ^ n → IsWord k (word_of k n v)
IsWord-word_of k zero v l = All-nil (λ a. a < k)
IsWord-word_of k (suc n) v l =
    grind (arith, pow-suc, div_below, IsWord-word_of k n (v % k ^ n) (mod-lt v (power_positive k n v l)))

-- the word of a number has that number for its value
pub value-word_of : (k n v : ℕ) → v < k ^ n → value k (word_of k n v) ≡ v
value-word_of k zero v l = let power : k ^ zero ≡ 1 = pow-zero k in omega arith
value-word_of k (suc n) v l =
    ap₂ (λ (i j : ℕ). v / k ^ n * k ^ i + j) (length-word_of k n (v % k ^ n)) (value-word_of k n (v % k ^ n) (mod-lt v (power_positive k n v l))) ∙ div-add-mod' v (k ^ n)

-- a word is the word of its value
pub word_of-value : (k : ℕ) (w : List ℕ) → IsWord k w → word_of k (length w) (value k w) ≡ w
word_of-value k [] h = refl
word_of-value k (a ∷ w) h =
    let tail = All-tail (λ a. a < k) a w h in
    grind (arith, value-below, div-mul-add, mod-mul-add, word_of-value k w tail)

-- the value of the first letters of a word, with one letter more
pub value-take_more : (k : ℕ) (w : List ℕ) (i : ℕ) → i < length w → value k (take (i + 1) w) ≡ value k (take i w) * k + get_or w i 0
value-take_more k w i h = ap (value k) (take_more w i 0 h) ∙ value-snoc k (take i w) (get_or w i 0)

-- the value of the first letters of a word, with one letter more, is below what bounds those of words as long as the whole
pub value-take-below : (k : ℕ) (w : List ℕ) (i n : ℕ) → IsWord k w → i < length w → k ^ length w ≤ n → value k (take i w) * k + get_or w i 0 < n
value-take-below k w i n word h fits =
    let letter : get_or w i 0 < k = word i 0 h in
    let below : value k (take (i + 1) w) < k ^ (i + 1) = rw (length-take-le (i + 1) w (omega arith)) at (value-below k (take (i + 1) w) (All-take (λ a. a < k) (i + 1) w word)) in
    let grows : k ^ (i + 1) ≤ k ^ length w = pow-le-pow_right (omega arith) (omega arith) in
    omega (arith, value-take_more k w i h)

-- a word is its first n letters and the others
value-cut : (k n : ℕ) (w : List ℕ) → n ≤ length w → value k w ≡ value k (take n w) * k ^ (length w - n) + value k (drop n w)
value-cut k n w h =
    ap (value k) (sym (take-append-drop n w))
    ∙ value-append k (take n w) (drop n w)
    ∙ ap (λ j. value k (take n w) * k ^ j + value k (drop n w)) (length-drop n w)

-- the value of the letters behind the first n is below that of as many letters
rest_below : (k n : ℕ) (w : List ℕ) → IsWord k w → value k (drop n w) < k ^ (length w - n)
rest_below k n w word = grind (arith, common_steps, value-below)

-- the value of the first n letters
pub value-take : (k n : ℕ) (w : List ℕ) → IsWord k w → n ≤ length w → value k (take n w) ≡ value k w / k ^ (length w - n)
value-take k n w word h =
    sym (ap (λ v. v / k ^ (length w - n)) (value-cut k n w h) ∙ div-mul-add (value k (take n w)) (k ^ (length w - n)) (value k (drop n w)) (rest_below k n w word))

-- the value of a word without its first n letters
pub value-drop : (k n : ℕ) (w : List ℕ) → IsWord k w → n ≤ length w → value k (drop n w) ≡ value k w % k ^ (length w - n)
value-drop k n w word h =
    sym (ap (λ v. v % k ^ (length w - n)) (value-cut k n w h) ∙ mod-mul-add (value k (take n w)) (k ^ (length w - n)) (value k (drop n w)) (rest_below k n w word))

-- a word of zeros has the value 0
pub value-zeros : (k n : ℕ) → value k (replicate n 0) ≡ 0
value-zeros k zero = refl
value-zeros k (suc n) = omega (arith, value-zeros k n)
