-- How many walks there are in the de Bruijn graph of a rule, from a node, with given labels, weighed by where they end.
use Rattle.std.proofs.Common.{pow-suc, mul_assoc, mul-le-mul_left, mul_left_comm, mul_comm, mod-eq_of_lt, ◌≡◌, ℕ, zero, suc, ◌+◌, ◌-◌, ◌*◌, ◌%◌, ◌^◌, ◌<◌, ◌≤◌, List, [], ◌∷◌, ◌++◌, length, ◌⊎◌, inl, inr, ◌==◌, refl, sym, ap, ◌∙◌, subst, ⊎_elim, arith, eq-eqb, ne_eqb, ◌≢◌}
use native.Mathlib.Nat.{mod-add-mod, pow-zero}
use Rattle.std.proofs.lemmas.Nat.{mul-mod_first}
use Rattle.std.proofs.lemmas.List.Elements.{All-nil, All-cons, All-head, All-tail}
use Rattle.word_image.proofs.Common.{cases_eq, cases_lt, from_bool, LocalRule, IsRule, IsWord, node_count, next, label, next-below, mod-mul-add, entry-below, nil_from_length}
use Rattle.welch_index.proofs.Totals.{total, total-le, total-same, total-mul, total-const, total-swap, total-least, total-equal, total-product, at_place, sign, sign-mul, sign-total}

-- only the term at the place t counts
pub total-at_place : (x : ℕ → ℕ) (p n : ℕ) → p < n → total (λ t. x t * at_place t p) n ≡ x p
total-at_place x p zero l = absurd (omega arith)
total-at_place x p (suc n) l =
    let none : (d : ℕ) → d ≤ p → total (λ t. x t * at_place t p) d ≡ 0 = λ d le.
    total-same (λ t. x t * at_place t p) (λ t. 0) d (λ t before. let other : p ≢ t = λ e. omega (arith, e) in let zeroth = ap from_bool (ne_eqb p t other) in grind arith) ∙ total-const 0 d ∙ omega arith in
    ⊎_elim
    (λ (same : p ≡ n). let one = ap from_bool (eq-eqb p n same) in let before = none n (omega (arith, same)) in let here = ap x same in grind arith)
    (λ other. let before = total-at_place x p n (omega (arith, other)) in let zeroth = ap from_bool (ne_eqb p n other) in grind arith)
    (cases_eq p n)

-- 1 if the edge from node p on the letter b has the label a, and 0 if not
abbrev pub fits : LocalRule → ℕ → ℕ → ℕ → ℕ
fits r a p b = from_bool (label r p b == a)

-- the sum of x over the ends of all walks from p whose labels spell the word
abbrev pub pull : LocalRule → List ℕ → (ℕ → ℕ) → ℕ → ℕ
pull r [] x p = x p
pull r (a ∷ w) x p = total (λ b. fits r a p b * pull r w x (next r p b)) r.states

-- the sum of x over the ends of all walks of n steps from p
abbrev pub walks : LocalRule → ℕ → (ℕ → ℕ) → ℕ → ℕ
walks r zero x p = x p
walks r (suc n) x p = total (λ b. walks r n x (next r p b)) r.states

-- the sum of g over all words of n letters
abbrev pub over : ℕ → ℕ → (List ℕ → ℕ) → ℕ
over k zero g = g []
over k (suc n) g = total (λ a. over k n (λ z. g (a ∷ z))) k

pub pull-append : (r : LocalRule) (u v : List ℕ) (x : ℕ → ℕ) (p : ℕ) → pull r (u ++ v) x p ≡ pull r u (pull r v x) p
pull-append r [] v x p = refl
pull-append r (a ∷ u) v x p = total-same _ _ r.states (λ b l. ap (λ y. fits r a p b * y) (pull-append r u v x (next r p b)))

pub pull-same : {r : LocalRule} → IsRule r → (w : List ℕ) (x y : ℕ → ℕ) → ((q : ℕ) → q < node_count r → x q ≡ y q) → (p : ℕ) → p < node_count r
    → pull r w x p ≡ pull r w y p
pull-same rule [] x y same p l = same p l
pull-same {r} rule (a ∷ w) x y same p l = total-same _ _ r.states (λ b h. ap (λ z. fits r a p b * z) (pull-same rule w x y same (next r p b) (next-below rule p b)))

pub pull-le : {r : LocalRule} → IsRule r → (w : List ℕ) (x y : ℕ → ℕ) → ((q : ℕ) → q < node_count r → x q ≤ y q) → (p : ℕ) → p < node_count r
    → pull r w x p ≤ pull r w y p
pull-le rule [] x y le p l = le p l
pull-le {r} rule (a ∷ w) x y le p l =
    total-le _ _ r.states (λ b h. let less = pull-le rule w x y le (next r p b) (next-below rule p b) in mul-le-mul_left _ less)

pub pull-sign : (r : LocalRule) (w : List ℕ) (x : ℕ → ℕ) (p : ℕ) → sign (pull r w x p) ≤ pull r w (λ q. sign (x q)) p
pull-sign r [] x p = omega arith
pull-sign r (a ∷ w) x p =
    let each = total-le (λ b. sign (fits r a p b * pull r w x (next r p b))) (λ b. fits r a p b * pull r w (λ q. sign (x q)) (next r p b)) r.states
    (λ b l. let less = mul-le-mul_left (fits r a p b) (pull-sign r w x (next r p b)) in omega (arith, sign-mul (fits r a p b) (pull r w x (next r p b)), less)) in
    omega (arith, sign-total (λ b. fits r a p b * pull r w x (next r p b)) r.states, each)

-- the walks are told apart by their ends
pub pull-nodes : {r : LocalRule} → IsRule r → (w : List ℕ) (x : ℕ → ℕ) (p : ℕ) → p < node_count r
    → pull r w x p ≡ total (λ t. x t * pull r w (at_place t) p) (node_count r)
pull-nodes {r} rule [] x p l = sym (total-at_place x p (node_count r) l)
pull-nodes {r} rule (a ∷ w) x p l =
    let k = r.states in
    let n = node_count r in
    total-same _ _ k (λ b h. ap (λ z. fits r a p b * z) (pull-nodes rule w x (next r p b) (next-below rule p b)) ∙ sym (total-mul (fits r a p b) (λ t. x t * pull r w (at_place t) (next r p b)) n))
    ∙ total-swap (λ b t. fits r a p b * (x t * pull r w (at_place t) (next r p b))) k n
    ∙ total-same _ _ n (λ t h. total-same _ _ k (λ b g. mul_left_comm (fits r a p b) (x t) (pull r w (at_place t) (next r p b))) ∙ total-mul (x t) (λ b. fits r a p b * pull r w (at_place t) (next r p b)) k)

-- with one weight for all ends, the walks are counted
pub pull-const : {r : LocalRule} → IsRule r → (w : List ℕ) (c : ℕ) (p : ℕ) → p < node_count r → pull r w (λ q. c) p ≡ c * pull r w (λ q. 1) p
pull-const rule [] c p l = omega arith
pull-const {r} rule (a ∷ w) c p l =
    total-same _ _ r.states (λ b h. ap (λ z. fits r a p b * z) (pull-const rule w c (next r p b) (next-below rule p b)) ∙ mul_left_comm (fits r a p b) c (pull r w (λ q. 1) (next r p b)))
    ∙ total-mul c (λ b. fits r a p b * pull r w (λ q. 1) (next r p b)) r.states

-- sums over words

pub over-le : (k n : ℕ) (f g : List ℕ → ℕ) → ((z : List ℕ) → IsWord k z → length z ≡ n → f z ≤ g z) → over k n f ≤ over k n g
over-le k zero f g each = each [] (All-nil (λ a. a < k)) refl
over-le k (suc n) f g each =
    total-le _ _ k (λ a l. over-le k n (λ z. f (a ∷ z)) (λ z. g (a ∷ z)) (λ z word long. each (a ∷ z) (All-cons (λ b. b < k) a z l word) (ap suc long)))

pub over-same : (k n : ℕ) (f g : List ℕ → ℕ) → ((z : List ℕ) → f z ≡ g z) → over k n f ≡ over k n g
over-same k zero f g each = each []
over-same k (suc n) f g each = total-same _ _ k (λ a l. over-same k n (λ z. f (a ∷ z)) (λ z. g (a ∷ z)) (λ z. each (a ∷ z)))

pub over-mul : (k n c : ℕ) (g : List ℕ → ℕ) → over k n (λ z. c * g z) ≡ c * over k n g
over-mul k zero c g = refl
over-mul k (suc n) c g = total-same _ _ k (λ a l. over-mul k n c (λ z. g (a ∷ z))) ∙ total-mul c (λ a. over k n (λ z. g (a ∷ z))) k

-- the words of one more letter are k times as many
parts : (k n c : ℕ) → k * (k ^ n * c) ≡ k ^ suc n * c
parts k n c = sym (mul_assoc k (k ^ n) c) ∙ ap (λ z. z * c) (mul_comm k (k ^ n) ∙ sym (pow-suc k n))

pub over-const : (k n c : ℕ) → over k n (λ z. c) ≡ k ^ n * c
over-const k zero c = let one = pow-zero k in let all : k ^ 0 * c ≡ 1 * c = ap (λ n. n * c) one in omega (arith, all)
over-const k (suc n) c = total-same _ _ k (λ a l. over-const k n c) ∙ total-const (k ^ n * c) k ∙ parts k n c

pub over-total : (k n m : ℕ) (h : List ℕ → ℕ → ℕ) → over k n (λ z. total (h z) m) ≡ total (λ i. over k n (λ z. h z i)) m
over-total k zero m h = refl
over-total k (suc n) m h = total-same _ _ k (λ a l. over-total k n m (λ z. h (a ∷ z))) ∙ total-swap (λ a i. over k n (λ z. h (a ∷ z) i)) k m

-- some word has no more than the mean
pub over-least : (k n : ℕ) (g : List ℕ → ℕ) → 0 < k → (z : List ℕ) × IsWord k z × (length z ≡ n) × (k ^ n * g z ≤ over k n g)
over-least k zero g some = let all : k ^ 0 * g [] ≡ 1 * g [] = ap (λ n. n * g []) (pow-zero k) in ([], All-nil (λ a. a < k), refl, omega (arith, all))
over-least k (suc n) g some =
    let (a, l, least) = total-least (λ a. over k n (λ z. g (a ∷ z))) k some in
    let (z, word, long, few) = over-least k n (λ z. g (a ∷ z)) some in
    let more = mul-le-mul_left k few in
    let all = parts k n (g (a ∷ z)) in
    (a ∷ z, All-cons (λ b. b < k) a z l word, ap suc long, omega (arith, least, more, all))

-- if no word has less than c, and all together have no more than c each, no word has more
pub over-equal : (k n c : ℕ) (g : List ℕ → ℕ) → ((z : List ℕ) → IsWord k z → length z ≡ n → c ≤ g z) → over k n g ≤ k ^ n * c
    → (z : List ℕ) → IsWord k z → length z ≡ n → g z ≡ c
over-equal k zero c g each few [] word long = let all : k ^ 0 * c ≡ 1 * c = ap (λ n. n * c) (pow-zero k) in omega (arith, few, each [] word long, all)
over-equal k zero c g each few (a ∷ z) word long = absurd (omega (arith, long))
over-equal k (suc n) c g each few [] word long = absurd (omega (arith, long))
over-equal k (suc n) c g each few (a ∷ z) word long =
    let l : a < k = All-head (λ b. b < k) a z word in
    let inner : (b : ℕ) → b < k → (y : List ℕ) → IsWord k y → length y ≡ n → c ≤ g (b ∷ y) = λ b h y hy ly. each (b ∷ y) (All-cons (λ d. d < k) b y h hy) (ap suc ly) in
    let least : (b : ℕ) → b < k → k ^ n * c ≤ over k n (λ y. g (b ∷ y)) = λ b h. subst (λ s. s ≤ over k n (λ y. g (b ∷ y))) (over-const k n c) (over-le k n (λ y. c) (λ y. g (b ∷ y)) (inner b h)) in
    let all = parts k n c in
    let same = total-equal (λ b. k ^ n * c) (λ b. over k n (λ y. g (b ∷ y))) k least (omega (arith, few, all, total-const (k ^ n * c) k)) a l in
    over-equal k n c (λ y. g (a ∷ y)) (inner a l) (omega (arith, same)) z (All-tail (λ b. b < k) a z word) (omega (arith, long))

-- if no word has more than c, and all together have no fewer than c each, no word has less
pub over-full : (k n c : ℕ) (g : List ℕ → ℕ) → ((z : List ℕ) → IsWord k z → length z ≡ n → g z ≤ c) → k ^ n * c ≤ over k n g
    → (z : List ℕ) → IsWord k z → length z ≡ n → g z ≡ c
over-full k zero c g each many [] word long = let all : k ^ 0 * c ≡ 1 * c = ap (λ n. n * c) (pow-zero k) in omega (arith, many, each [] word long, all)
over-full k zero c g each many (a ∷ z) word long = absurd (omega (arith, long))
over-full k (suc n) c g each many [] word long = absurd (omega (arith, long))
over-full k (suc n) c g each many (a ∷ z) word long =
    let l : a < k = All-head (λ b. b < k) a z word in
    let inner : (b : ℕ) → b < k → (y : List ℕ) → IsWord k y → length y ≡ n → g (b ∷ y) ≤ c = λ b h y hy ly. each (b ∷ y) (All-cons (λ d. d < k) b y h hy) (ap suc ly) in
    let most : (b : ℕ) → b < k → over k n (λ y. g (b ∷ y)) ≤ k ^ n * c = λ b h. subst (λ s. over k n (λ y. g (b ∷ y)) ≤ s) (over-const k n c) (over-le k n (λ y. g (b ∷ y)) (λ y. c) (inner b h)) in
    let all = parts k n c in
    let same = total-equal (λ b. over k n (λ y. g (b ∷ y))) (λ b. k ^ n * c) k most (omega (arith, many, all, total-const (k ^ n * c) k)) a l in
    over-full k n c (λ y. g (a ∷ y)) (inner a l) (omega (arith, same)) z (All-tail (λ b. b < k) a z word) (omega (arith, long))

-- the rest of a product of a rest
ends_digits : (y c j m : ℕ) → (y % m * c + j) % m ≡ (y * c + j) % m
ends_digits y c j m = sym (mod-add-mod (y % m * c) m j) ∙ ap (λ q. (q + j) % m) (mul-mod_first y c m) ∙ mod-add-mod (y * c) m j

-- a label is a letter
label-below : {r : LocalRule} → IsRule r → (p b : ℕ) → label r p b < r.states
label-below {r} rule p b = entry-below rule (p * r.states + b)

-- a letter of a window has one label
fits-one : {r : LocalRule} → IsRule r → (p b : ℕ) → p < node_count r → b < r.states → (y : ℕ) → total (λ a. fits r a p b * y) r.states ≡ y
fits-one {r} rule p b l h y =
    total-same (λ a. fits r a p b * y) (λ a. y * at_place a (label r p b)) r.states (λ a g. mul_comm (fits r a p b) y)
    ∙ total-at_place (λ a. y) (label r p b) r.states (label-below rule p b)

-- each walk of n steps spells one word of n letters
pub over-pull : {r : LocalRule} → IsRule r → (n : ℕ) (x : ℕ → ℕ) (p : ℕ) → p < node_count r → over r.states n (λ z. pull r z x p) ≡ walks r n x p
over-pull rule zero x p l = refl
over-pull {r} rule (suc n) x p l =
    let k = r.states in
    total-same (λ a. over k n (λ z. total (λ b. fits r a p b * pull r z x (next r p b)) k)) (λ a. total (λ b. fits r a p b * walks r n x (next r p b)) k) k (λ a g.
    over-total k n k (λ z b. fits r a p b * pull r z x (next r p b))
    ∙ total-same _ _ k (λ b h. over-mul k n (fits r a p b) (λ z. pull r z x (next r p b)) ∙ ap (λ y. fits r a p b * y) (over-pull rule n x (next r p b) (next-below rule p b))))
    ∙ total-swap (λ a b. fits r a p b * walks r n x (next r p b)) k k
    ∙ total-same _ _ k (λ b h. fits-one rule p b l h (walks r n x (next r p b)))

-- a number with one more digit
digits : (p k b n j : ℕ) → (p * k + b) * k ^ n + j ≡ p * k ^ suc n + (b * k ^ n + j)
digits p k b n j = let more = pow-suc k n in grind (arith, more)

-- a walk of n steps ends at the node that the letters of its steps give
walks-ends : (r : LocalRule) → IsRule r → (n : ℕ) (x : ℕ → ℕ) (p : ℕ) → p < node_count r
    → walks r n x p ≡ total (λ j. x ((p * r.states ^ n + j) % node_count r)) (r.states ^ n)
walks-ends r rule zero x p l =
    let same : (p * 1 + 0) % node_count r ≡ p = ap (λ q. q % node_count r) (omega arith) ∙ mod-eq_of_lt l in
    let all : total (λ j. x ((p * r.states ^ 0 + j) % node_count r)) (r.states ^ 0) ≡ total (λ j. x ((p * 1 + j) % node_count r)) 1 = ap (λ n. total (λ j. x ((p * n + j) % node_count r)) n) (pow-zero r.states) in
    let one : total (λ j. x ((p * 1 + j) % node_count r)) 1 ≡ x ((p * 1 + 0) % node_count r) = omega arith in
    sym (all ∙ one ∙ ap x same)
walks-ends r rule (suc n) x p l =
    let k = r.states in
    let c = k ^ n in
    let m = node_count r in
    let node : (b j : ℕ) → (next r p b * c + j) % m ≡ (p * k ^ suc n + (b * c + j)) % m = λ b j.
    ends_digits (p * k + b) c j m ∙ ap (λ q. q % m) (digits p k b n j) in
    total-same _ _ k (λ b h. walks-ends r rule n x (next r p b) (next-below rule p b) ∙ total-same _ _ c (λ j g. ap x (node b j)))
    ∙ sym (total-product (λ i. x ((p * k ^ suc n + i) % m)) k c)
    ∙ ap (total (λ i. x ((p * k ^ suc n + i) % m))) (mul_comm k c ∙ sym (pow-suc k n))

-- in m - 1 steps each node is reached once
pub walks-all : {r : LocalRule} → IsRule r → (x : ℕ → ℕ) (p : ℕ) → p < node_count r → walks r (r.width - 1) x p ≡ total x (node_count r)
walks-all {r} rule x p l =
    walks-ends r rule (r.width - 1) x p l
    ∙ total-same _ _ (node_count r) (λ j h. ap x (mod-mul-add p (node_count r) j h))

-- the weights behind a word are summed behind its walks
pub over-behind : (r : LocalRule) (n : ℕ) (v : List ℕ) (h : List ℕ → ℕ → ℕ) (p : ℕ)
    → over r.states n (λ z. pull r v (h z) p) ≡ pull r v (λ q. over r.states n (λ z. h z q)) p
over-behind r n [] h p = refl
over-behind r n (a ∷ v) h p =
    over-total r.states n r.states (λ z b. fits r a p b * pull r v (h z) (next r p b))
    ∙ total-same _ _ r.states (λ b l. over-mul r.states n (fits r a p b) (λ z. pull r v (h z) (next r p b)) ∙ ap (λ y. fits r a p b * y) (over-behind r n v h (next r p b)))

-- each node has k ^ n walks of n steps
pub walks-const : (r : LocalRule) (n c p : ℕ) → walks r n (λ q. c) p ≡ r.states ^ n * c
walks-const r zero c p = let all : r.states ^ 0 * c ≡ 1 * c = ap (λ n. n * c) (pow-zero r.states) in omega (arith, all)
walks-const r (suc n) c p = total-same _ _ r.states (λ b l. walks-const r n c (next r p b)) ∙ total-const (r.states ^ n * c) r.states ∙ parts r.states n c

-- a list is empty or has a first item
split : (z : List ℕ) (P : List ℕ → Type 0) → P [] → ((a : ℕ) (y : List ℕ) → P (a ∷ y)) → P z
split [] P none some = none
split (a ∷ y) P none some = some a y

-- a letter for which something holds, or for all letters something else
letters : (A B : ℕ → Type 0) → ((a : ℕ) → A a ⊎ B a) → (k : ℕ) → ((a : ℕ) × (a < k) × A a) ⊎ ((a : ℕ) → a < k → B a)
letters A B each zero = inr (λ a l. absurd (omega arith))
letters A B each (suc k) =
    ⊎_elim
    (λ here. inl (k, omega arith, here))
    (λ last. ⊎_elim
    (λ some. inl (some.0, omega (arith, some.1), some.2))
    (λ all. inr (λ a l. ⊎_elim (λ (same : a ≡ k). subst B (sym same) last) (λ other. all a (omega (arith, other))) (cases_eq a k)))
    (letters A B each k))
    (each k)

-- some word has less than c, or no word has
pub over-some : (k n c : ℕ) (g : List ℕ → ℕ) → ((z : List ℕ) × IsWord k z × (length z ≡ n) × (g z < c)) ⊎ ((z : List ℕ) → IsWord k z → length z ≡ n → c ≤ g z)
over-some k zero c g =
    ⊎_elim
    (λ less. inl ([], All-nil (λ a. a < k), refl, less))
    (λ le. inr (λ z word long. let none : z ≡ [] = nil_from_length z long in subst (λ y. c ≤ g y) (sym none) le))
    (cases_lt (g []) c)
over-some k (suc n) c g =
    ⊎_elim
    (λ found. let (z, word, long, less) = found.2 in inl (found.0 ∷ z, All-cons (λ b. b < k) found.0 z found.1 word, ap suc long, less))
    (λ none. inr (λ z word long. split z (λ y. IsWord k y → length y ≡ suc n → c ≤ g y) (λ _ none_long. absurd (omega (arith, none_long)))
    (λ a y here more. none a (All-head (λ b. b < k) a y here) y (All-tail (λ b. b < k) a y here) (omega (arith, more))) word long))
    (letters (λ a. (z : List ℕ) × IsWord k z × (length z ≡ n) × (g (a ∷ z) < c)) (λ a. (z : List ℕ) → IsWord k z → length z ≡ n → c ≤ g (a ∷ z)) (λ a. over-some k n c (λ z. g (a ∷ z))) k)
