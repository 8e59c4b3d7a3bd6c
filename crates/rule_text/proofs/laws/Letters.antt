-- The letters of a number in base k, from the least significant on: the table of a Wolfram number.
use Rattle.std.proofs.Common.{◌≡◌, ℕ, suc, ◌+◌, ◌*◌, ◌/◌, ◌%◌, ◌^◌, ◌<◌, [], ◌∷◌, ◌++◌, reverse, sym, ap, ap₂, ◌∙◌, arith, add-one, mul_comm, pow-suc, mod-lt, mul-le-mul}
use Rattle.word_image.proofs.Common.{div-div-eq-div-mul, one-le-pow, div_below, div-mul-add, mod-mul-add, reverse-append, word_of}

-- the last places of a number, and the one before them, can be read from its last places and one more
digits_apart : (n p k : ℕ) → 0 < p → 0 < k → (n % (p * k) % p ≡ n % p) × (n % (p * k) / p ≡ n / p % k)
digits_apart n p k some base =
    let q = n / (p * k) in
    let r = n % (p * k) in
    let s = r / p in
    let t = r % p in
    let positive : 0 < p * k = omega (arith, mul-le-mul some base) in
    let n_is : n ≡ (q * k + s) * p + t = omega arith in
    let low : t < p = mod-lt r some in
    let below : r < k * p = omega (arith, mod-lt n positive, mul_comm p k) in
    let letter : s < k = div_below r p k some below in
    let last : n % p ≡ t = ap (λ j. j % p) n_is ∙ mod-mul-add (q * k + s) p t low in
    let first : n / p ≡ q * k + s = ap (λ j. j / p) n_is ∙ div-mul-add (q * k + s) p t low in
    (sym last, sym (ap (λ j. j % k) first ∙ mod-mul-add q k s letter))

-- the last places of a number with one place more
pub reverse-word_of-more : (k n i : ℕ) → 0 < k
    → reverse (word_of k (i + 1) (n % k ^ (i + 1))) ≡ reverse (word_of k i (n % k ^ i)) ++ (n / k ^ i) % k ∷ []
reverse-word_of-more k n i base =
    let v = n % k ^ suc i in
    let apart = digits_apart n (k ^ i) k (one-le-pow i k base) base in
    let rest : v % k ^ i ≡ n % k ^ i = ap (λ j. n % j % k ^ i) (pow-suc k i) ∙ apart.0 in
    let letter : v / k ^ i ≡ n / k ^ i % k = ap (λ j. n % j / k ^ i) (pow-suc k i) ∙ apart.1 in
    ap (λ j. reverse (word_of k j (n % k ^ j))) (add-one i) ∙ reverse-append (v / k ^ i ∷ []) (word_of k i (v % k ^ i))
    ∙ ap₂ (λ (a b : ℕ). reverse (word_of k i a) ++ b ∷ []) rest letter

-- a number without its last i + 1 places is the number without its last i, divided by k
pub div-pow-more : (k n i : ℕ) → n / k ^ (i + 1) ≡ n / k ^ i / k
div-pow-more k n i = ap (λ j. n / k ^ j) (add-one i) ∙ ap (λ j. n / j) (pow-suc k i) ∙ sym (div-div-eq-div-mul n (k ^ i) k)
