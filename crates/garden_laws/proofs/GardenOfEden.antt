-- The Garden of Eden theorem: a rule is surjective exactly where no two words are an erasable pair (Moore 1962, Myhill 1963).
use Rattle.std.proofs.Common.{◌≡◌, ◌≢◌, ℕ, zero, suc, ◌-◌, ◌*◌, ◌^◌, ◌<◌, ◌≤◌, ◌↔◌, List, [], ◌++◌, length, take, drop, refl, sym, ap, ◌∙◌, ⊎_elim, arith, append_assoc, length-append, take_at, drop_at}
use Rattle.word_image.proofs.Common.{cases_lt, mul-le, All-nil, All-append, LocalRule, IsRule, IsWord, value, word_of, node_count, image, IsPreimage, IsSurjective, IsErasable, value-below, word_of-value, IsWord-image, length-image, node_count_pos, some_below}
use Rattle.garden_laws.proofs.Injections.{less_or_not, injective-le}
use Rattle.garden_laws.proofs.Exchange.{IsErasable-long, image-exchange}
use Rattle.garden_laws.proofs.CountedPreimages.{counted, count_of, many_more, IsErasable-many, even_level}
use Rattle.garden_laws.proofs.Balance.{count_of-surjective}

-- no two words are an erasable pair
abbrev pub NoneErasable : LocalRule → Type 0
NoneErasable r = (x y : List ℕ) → ¬ IsErasable r x y

-- where no two words are an erasable pair, every word has a preimage: an orphan leaves some word of its length more preimages than there are nodes
pub IsSurjective-none_erasable : {r : LocalRule} → IsRule r → NoneErasable r → IsSurjective r
IsSurjective-none_erasable {r} rule none w hw =
    let k : ℕ = r.states in
    let l : ℕ = length w in
    let nodes : ℕ = node_count r in
    let c = counted r w in
    ⊎_elim
    (λ some. (c.at 0, c.preimage 0 some))
    (λ orphan. absurd (⊎_elim
    (λ (b, hb, more).
    let (z, many) = many_more rule (word_of k l b) more (nodes * nodes) in
    let (x, y, pair) = IsErasable-many rule z (omega (arith, many)) in
    none x y pair)
    (λ few.
    let enough = (even_level rule l).0 (λ b hb. omega (arith, few b hb)) (value k w) (value-below k w hw) in
    omega (arith, enough, ap (count_of r) (word_of-value k w hw), node_count_pos rule))
    (some_below (λ b. nodes < count_of r (word_of k l b)) (λ b. less_or_not nodes (count_of r (word_of k l b))) (k ^ l))))
    (cases_lt 0 (count_of r w))

-- n words in a row, which are x but for number i, which is y
abbrev one_other : List ℕ → List ℕ → ℕ → ℕ → List ℕ
one_other x y zero i = []
one_other x y (suc n) zero = y ++ one_other x y n n
one_other x y (suc n) (suc i) = x ++ one_other x y n i

-- each of the words is as long as x, so they are n times as long
length-one_other : {r : LocalRule} {x y : List ℕ} → IsErasable r x y → (n i : ℕ) → length (one_other x y n i) ≡ n * length x
length-one_other h zero i = omega arith
length-one_other {r} {x} {y} h (suc n) zero = omega (arith, length-append y (one_other x y n n), length-one_other h n n, h.one_length)
length-one_other {r} {x} {y} h (suc n) (suc i) = omega (arith, length-append x (one_other x y n i), length-one_other h n i)

-- words in a row are a word
IsWord-one_other : {r : LocalRule} {x y : List ℕ} → IsErasable r x y → (n i : ℕ) → IsWord r.states (one_other x y n i)
IsWord-one_other {r} h zero i = All-nil (λ a. a < r.states)
IsWord-one_other {r} {x} {y} h (suc n) zero = All-append (λ a. a < r.states) y (one_other x y n n) h.second (IsWord-one_other h n n)
IsWord-one_other {r} {x} {y} h (suc n) (suc i) = All-append (λ a. a < r.states) x (one_other x y n i) h.first (IsWord-one_other h n i)

-- the image of words in a row doesn't tell which of them is the other one of an erasable pair
image-one_other : {r : LocalRule} {x y : List ℕ} → IsRule r → IsErasable r x y → (p : List ℕ) (n i : ℕ)
    → image r (p ++ one_other x y n i) ≡ image r (p ++ one_other x y n n)
image-one_other rule h p zero i = refl
image-one_other {r} {x} {y} rule h p (suc n) zero = sym (image-exchange rule h p (one_other x y n n))
image-one_other {r} {x} rule h p (suc n) (suc i) = grind (arith, append_assoc, image-one_other rule h (p ++ x) n i)

-- words in a row differ if another one of them is the other one of an erasable pair
one_other-apart : {r : LocalRule} {x y : List ℕ} → IsErasable r x y → (n i j : ℕ) → i < j → j ≤ n → one_other x y n i ≢ one_other x y n j
one_other-apart h zero i j l most e = omega arith
one_other-apart h (suc n) i zero l most e = omega arith
one_other-apart {r} {x} {y} h (suc n) zero (suc j) l most e =
    h.different (sym (take_at x (one_other x y n j) (length x) refl) ∙ sym (ap (take (length x)) e) ∙ take_at y (one_other x y n n) (length x) (sym h.one_length))
one_other-apart {r} {x} {y} h (suc n) (suc i) (suc j) l most e =
    one_other-apart h n i j (omega arith) (omega arith) (sym (drop_at x (one_other x y n i) (length x) refl) ∙ ap (drop (length x)) e ∙ drop_at x (one_other x y n j) (length x) refl)

-- under a surjective rule no two words are an erasable pair: else some word has more preimages than there are nodes
pub none_erasable-surjective : {r : LocalRule} → IsRule r → IsSurjective r → NoneErasable r
none_erasable-surjective {r} rule every x y h =
    let n : ℕ = node_count r in
    let z : ℕ → List ℕ = one_other x y n in
    let c = counted r (image r (z n)) in
    let long : r.width - 1 ≤ n * length x = omega (arith, mul-le 1 (length x) n (length x) (node_count_pos rule) (omega arith), IsErasable-long h) in
    let is : (i : ℕ) → IsPreimage r (image r (z n)) (z i) = λ i.
    record { word = IsWord-one_other h n i; long = omega (arith, length-image r (z n), length-one_other h n n, length-one_other h n i); maps = image-one_other rule h [] n i } in
    let many = injective-le (suc n) (count_of r (image r (z n))) (λ i. c.place (z i)) (λ i l. (c.back (z i) (is i)).0) (λ i j less last same.
    one_other-apart h n i j less (omega arith) (sym (c.back (z i) (is i)).1 ∙ ap c.at same ∙ (c.back (z j) (is j)).1)) in
    omega (arith, many, count_of-surjective rule every (image r (z n)) (IsWord-image rule (z n)))

-- a rule is surjective exactly where no two words are an erasable pair
pub garden_of_eden : {r : LocalRule} → IsRule r → (IsSurjective r ↔ NoneErasable r)
garden_of_eden rule = (none_erasable-surjective rule, IsSurjective-none_erasable rule)
