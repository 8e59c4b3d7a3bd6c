-- The mean of the letters of a table. Under a conserving rule it is that of all letters: what all windows gain is what the numbers of a flux give at their first nodes, less what they give at their last ones, and these are the same numbers. It is so too where each letter stands equally often.
use Rattle.std.proofs.Common.{◌≡◌, ℕ, zero, suc, ◌+◌, ◌-◌, ◌*◌, ◌/◌, ◌%◌, ◌^◌, ◌<◌, ◌≤◌, List, [], ◌∷◌, length, take, slice_index, get_or, sum, count_by, cond, ⊎_elim, ℤ, pos, ◌+ℤ◌, ◌-ℤ◌, refl, sym, ap, ap₂, ◌∙◌, arith, mod-eq_of_lt, ◌==◌, mul-add, add-mul, suc-mul, mul-suc, mul-zero, zero-mul, mul_assoc, mul_comm, eq-eqb, ne_eqb, take_all}
use Rattle.word_image.proofs.Common.{mul-div_cancel_left, zero-div, one-le-pow, cases_eq, cond-true, cond-false, All-head, All-tail, ints, div-mul-add, mod-mul-add, sum_by_more, sum_by-cons, LocalRule, IsRule, IsWord, node_count, IsConserving, IsFlux, node_count_pos, windows-nodes}
use Rattle.ring_laws.proofs.FluxWindows.{window_gain, FlowsAt-flux}
use Rattle.ring_laws.proofs.FluxWalks.{walk_gains}
use Rattle.ring_laws.proofs.LossyRings.{IsConserving-walk_gains}
use Rattle.garden_laws.specs.Tables.{IsEven, HasMean}

-- the total f 0 + f 1 + .. + f (n - 1)
total : (ℕ → ℤ) → ℕ → ℤ
total f zero = pos 0
total f (suc n) = total f n +ℤ f n

-- the totals of two functions that agree are equal
total-agree : (f g : ℕ → ℤ) (n : ℕ) → ((i : ℕ) → i < n → f i ≡ g i) → total f n ≡ total g n
unfolding total
total-agree f g zero h = refl
total-agree f g (suc n) h = ap₂ (λ (i j : ℤ). i +ℤ j) (total-agree f g n (λ i l. h i (omega arith))) (h n (omega arith))

-- a total in two parts
total-add : (f : ℕ → ℤ) (a b : ℕ) → total f (a + b) ≡ total f a +ℤ total (λ i. f (a + i)) b
unfolding total
total-add f a zero = let e : a + 0 ≡ a = omega arith in ap (total f) e ∙ omega (arith, ints)
total-add f a (suc b) = let e : a + suc b ≡ suc (a + b) = omega arith in ap (total f) e ∙ omega (arith, ints, total-add f a b)

-- the total of differences is the difference of the totals
total-sub : (f g : ℕ → ℤ) (n : ℕ) → total (λ i. f i -ℤ g i) n ≡ total f n -ℤ total g n
unfolding total
total-sub f g zero = omega (arith, ints)
total-sub f g (suc n) = omega (arith, ints, total-sub f g n)

-- n times x
times : ℕ → ℤ → ℤ
times zero x = pos 0
times (suc n) x = times n x +ℤ x

-- n times 0 is 0
times-zero : (n : ℕ) → times n (pos 0) ≡ pos 0
unfolding times
times-zero zero = refl
times-zero (suc n) = omega (arith, ints, times-zero n)

-- n times a sum is the sum of n times each part
times-add : (n : ℕ) (x y : ℤ) → times n (x +ℤ y) ≡ times n x +ℤ times n y
unfolding times
times-add zero x y = omega (arith, ints)
times-add (suc n) x y = omega (arith, ints, times-add n x y)

-- n times a number that isn't negative is the product
times-pos : (n x : ℕ) → times n (pos x) ≡ pos (n * x)
unfolding times
times-pos zero x = ap pos (sym (zero-mul x))
times-pos (suc n) x = omega (arith, ints, times-pos n x, suc-mul n x)

-- the total of one and the same number, n times, is n times the number
total-same : (f : ℕ → ℤ) (x : ℤ) (n : ℕ) → ((i : ℕ) → i < n → f i ≡ x) → total f n ≡ times n x
unfolding total times
total-same f x zero h = refl
total-same f x (suc n) h = ap₂ (λ (i j : ℤ). i +ℤ j) (total-same f x n (λ i l. h i (omega arith))) (h n (omega arith))

-- the total of n blocks of d numbers, each of which has f 0 to f (d - 1)
total-rem : (f : ℕ → ℤ) (d n : ℕ) → total (λ v. f (v % d)) (n * d) ≡ times n (total f d)
unfolding total times
total-rem f d zero = ap (total (λ v. f (v % d))) (zero-mul d)
total-rem f d (suc n) =
    ap (total (λ v. f (v % d))) (suc-mul n d)
    ∙ total-add (λ v. f (v % d)) (n * d) d
    ∙ ap₂ (λ (i j : ℤ). i +ℤ j) (total-rem f d n) (total-agree (λ i. f ((n * d + i) % d)) f d (λ i l. ap f (mod-mul-add n d i l)))

-- the total of n blocks of d numbers, of which block i has f i alone
total-div : (f : ℕ → ℤ) (d n : ℕ) → total (λ v. f (v / d)) (n * d) ≡ times d (total f n)
unfolding total
total-div f d zero = ap (total (λ v. f (v / d))) (zero-mul d) ∙ sym (times-zero d)
total-div f d (suc n) = grind (arith, total, suc-mul, total-add, total-same, div-mul-add, times-add, total-div f d n)

-- the total of the first letters of a table is their sum
total-table : (table : List ℕ) (n : ℕ) → n ≤ length table → total (λ v. pos (slice_index table v)) n ≡ pos (sum (take n table))
unfolding total
total-table table zero few = refl
total-table table (suc n) few =
    let less : n < length table = omega arith in
    let more = sum_by_more (λ a. a) table n 0 less in
    let same : suc n ≡ n + 1 = omega arith in
    omega (arith, ints, total-table table n (omega arith), more, ap (λ i. sum (take i table)) same)

-- 0 + 1 + .. + (n - 1)
triangle : ℕ → ℕ
triangle zero = 0
triangle (suc n) = triangle n + n

triangle-twice : (n : ℕ) → 2 * triangle n + n ≡ n * n
unfolding triangle
triangle-twice zero = refl
triangle-twice (suc n) = omega (arith, triangle-twice n, suc-mul n (suc n), mul-suc n n)

-- the total of the letters below n is 0 + 1 + .. + (n - 1)
total-letters : (n : ℕ) → total (λ a. pos a) n ≡ pos (triangle n)
unfolding total triangle
total-letters zero = refl
total-letters (suc n) = omega (arith, ints, total-letters n)

-- all windows together gain nothing
all_gain : {r : LocalRule} → IsRule r → IsConserving (λ a. a) r → total (window_gain (λ a. a) r) (r.states ^ r.width) ≡ pos 0
all_gain {r} rule keep =
    let k : ℕ = r.states in
    let n : ℕ = node_count r in
    let phi = walk_gains (λ a. a) r in
    let flux : IsFlux (λ a. a) r phi = (IsConserving-walk_gains rule (λ a. a)).0 keep in
    let at : ℕ → ℤ = λ u. get_or phi u (pos 0) in
    let firsts : total (λ v. at (v / k)) (k ^ r.width) ≡ times k (total at n) = ap (total (λ v. at (v / k))) (windows-nodes rule) ∙ total-div at k n in
    let lasts = ap (total (λ v. at (v % n))) (windows-nodes rule ∙ mul_comm n k) ∙ total-rem at n k in
    total-agree (window_gain (λ a. a) r) (λ v. at (v / k) -ℤ at (v % n)) (k ^ r.width) (λ v l. FlowsAt-flux rule flux v l)
    ∙ total-sub (λ v. at (v / k)) (λ v. at (v % n)) (k ^ r.width)
    ∙ omega (arith, ints, firsts, lasts)

-- under a conserving rule the letters have the mean of all letters
pub HasMean-conserving : {r : LocalRule} → IsRule r → IsConserving (λ a. a) r → HasMean r.states r.table
HasMean-conserving {r} rule keep =
    let k : ℕ = r.states in
    let n : ℕ = node_count r in
    let size : ℕ = k ^ r.width in
    let new : total (λ v. pos (slice_index r.table v)) size ≡ pos (sum r.table) =
    total-table r.table size (omega (arith, rule.entries)) ∙ ap (λ xs. pos (sum xs)) (take_all size r.table (omega (arith, rule.entries))) in
    let old : total (λ v. pos (v / n)) size ≡ pos (n * triangle k) =
    ap (total (λ v. pos (v / n))) (windows-nodes rule ∙ mul_comm n k) ∙ total-div (λ a. pos a) n k ∙ ap (times n) (total-letters k) ∙ times-pos n (triangle k) in
    let both = total-sub (λ v. pos (slice_index r.table v)) (λ v. pos (v / n)) size in
    let all : sum r.table ≡ n * triangle k = omega (arith, ints, new, old, both, all_gain rule keep) in
    let long : length r.table ≡ n * k = rule.entries ∙ windows-nodes rule in
    let square : n * (2 * triangle k + k) ≡ n * (k * k) = ap (λ x. n * x) (triangle-twice k) in
    let sum_twice : n * (2 * triangle k) ≡ 2 * (n * triangle k) = sym (mul_assoc n 2 (triangle k)) ∙ ap (λ x. x * triangle k) (mul_comm n 2) ∙ mul_assoc 2 n (triangle k) in
    let parts = mul-add n (2 * triangle k) k in
    omega (arith, all, square, sum_twice, parts, mul_comm k (n * k) ∙ mul_assoc n k k, long, ap (λ x. k * x) long)

-- the sum of those letters of a list that are below n
weighed : ℕ → List ℕ → ℕ
weighed zero xs = 0
weighed (suc n) xs = weighed n xs + n * count_by (λ b. b == n) xs

-- the sum of the letters of a list below n is 0 where there are no letters
weighed-nil : (n : ℕ) → weighed n [] ≡ 0
unfolding weighed
weighed-nil zero = refl
weighed-nil (suc n) = omega (arith, weighed-nil n, mul-zero n)

-- a letter more that isn't below n adds nothing
weighed-other : (n x : ℕ) (xs : List ℕ) → n ≤ x → weighed n (x ∷ xs) ≡ weighed n xs
unfolding weighed
weighed-other zero x xs l = refl
weighed-other (suc n) x xs l = grind (arith, weighed-other n x xs (omega arith))

-- a letter more that is below n adds its value
weighed-one : (n x : ℕ) (xs : List ℕ) → x < n → weighed n (x ∷ xs) ≡ weighed n xs + x
unfolding weighed
weighed-one zero x xs l = absurd (omega arith)
weighed-one (suc n) x xs l =
    ⊎_elim
    (λ last.
    let more : count_by (λ b. b == n) (x ∷ xs) ≡ count_by (λ b. b == n) xs + 1 =
    omega (arith, sum_by-cons (λ b. cond (b == n) 1 0) x xs, cond-true {A = ℕ} (x == n) 1 0 (eq-eqb x n last)) in
    omega (arith, weighed-other n x xs (omega arith), ap (λ i. n * i) more, mul-add n (count_by (λ b. b == n) xs) 1))
    (λ other.
    let same : count_by (λ b. b == n) (x ∷ xs) ≡ count_by (λ b. b == n) xs =
    omega (arith, sum_by-cons (λ b. cond (b == n) 1 0) x xs, cond-false {A = ℕ} (x == n) 1 0 (ne_eqb x n other)) in
    omega (arith, weighed-one n x xs (omega (arith, other)), ap (λ i. n * i) same))
    (cases_eq x n)

-- the sum of the letters of a word over k letters below k is the sum of all
weighed-word : (k : ℕ) (xs : List ℕ) → IsWord k xs → weighed k xs ≡ sum xs
weighed-word k [] word = weighed-nil k
weighed-word k (x ∷ xs) word =
    omega (arith, weighed-one k x xs (All-head (λ b. b < k) x xs word), weighed-word k xs (All-tail (λ b. b < k) x xs word), sum_by-cons (λ a. a) x xs)

-- where each letter below n stands q times
weighed-even : (q n : ℕ) (xs : List ℕ) → ((a : ℕ) → a < n → count_by (λ b. b == a) xs ≡ q) → weighed n xs ≡ triangle n * q
unfolding weighed triangle
weighed-even q zero xs each = sym (zero-mul q)
weighed-even q (suc n) xs each =
    omega (arith, weighed-even q n xs (λ a l. each a (omega arith)), ap (λ i. n * i) (each n (omega arith)))

-- a table in which each letter stands equally often has the mean of all letters
pub HasMean-even : {r : LocalRule} → IsRule r → IsEven r.states r.table → HasMean r.states r.table
HasMean-even {r} rule even =
    let k : ℕ = r.states in
    let q : ℕ = node_count r in
    let some : 0 < k = let two : 2 ≤ k = rule.shape.least_states in omega arith in
    let long : length r.table ≡ q * k = rule.entries ∙ windows-nodes rule in
    let each : (a : ℕ) → a < k → count_by (λ b. b == a) r.table ≡ q = λ a l.
    sym (mul-div_cancel_left (count_by (λ b. b == a) r.table) some)
    ∙ ap (λ n. n / k) (even a l ∙ long ∙ mul_comm q k)
    ∙ mul-div_cancel_left q some in
    let all : sum r.table ≡ triangle k * q = sym (weighed-word k r.table rule.letters) ∙ weighed-even q k r.table each in
    let square : (2 * triangle k + k) * q ≡ k * k * q = ap (λ n. n * q) (triangle-twice k) in
    let length_times : k * length r.table ≡ k * k * q = ap (λ n. k * n) (long ∙ mul_comm q k) ∙ sym (mul_assoc k k q) in
    let turned = mul_comm k q in
    omega (arith, all, square, add-mul (2 * triangle k) k q, mul_assoc 2 (triangle k) q, length_times, turned, long)

-- under a conserving rule a window that leads from a node to itself keeps its first letter
keeps-loop : {r : LocalRule} → IsRule r → IsConserving (λ a. a) r → (v : ℕ) → v < r.states ^ r.width → v / r.states ≡ v % node_count r
    → slice_index r.table v ≡ v / node_count r
keeps-loop {r} rule keep v within loop =
    let phi = walk_gains (λ a. a) r in
    let flux : IsFlux (λ a. a) r phi = (IsConserving-walk_gains rule (λ a. a)).0 keep in
    omega (arith, ints, FlowsAt-flux rule flux v within, ap (λ u. get_or phi u (pos 0)) loop)

-- under a conserving rule the window of letters 0 has the letter 0
pub keeps-zeros : {r : LocalRule} → IsRule r → IsConserving (λ a. a) r → slice_index r.table 0 ≡ 0
keeps-zeros {r} rule keep = grind (arith, node_count_pos, one-le-pow, zero-div, mod-eq_of_lt, keeps-loop)

-- under a conserving rule the window of the greatest letters has the greatest letter
pub keeps-greatest : {r : LocalRule} → IsRule r → IsConserving (λ a. a) r → slice_index r.table (length r.table - 1) ≡ r.states - 1
keeps-greatest {r} rule keep =
    let k : ℕ = r.states in
    let n : ℕ = node_count r in
    let some : 0 < k = let two : 2 ≤ k = rule.shape.least_states in omega arith in
    let nodes = node_count_pos rule in
    let long : length r.table ≡ n * k = rule.entries ∙ windows-nodes rule in
    let v : ℕ = length r.table - 1 in
    let one_less : suc (n - 1) ≡ n = omega arith in
    let rows : n * k ≡ (n - 1) * k + k = ap (λ i. i * k) (sym one_less) ∙ suc-mul (n - 1) k in
    let one_less_letter : suc (k - 1) ≡ k = omega arith in
    let columns = mul_comm n k ∙ ap (λ i. i * n) (sym one_less_letter) ∙ suc-mul (k - 1) n in
    let by_node : v ≡ (n - 1) * k + (k - 1) = omega (arith, long, rows) in
    let by_letter : v ≡ (k - 1) * n + (n - 1) = omega (arith, long, columns) in
    let first : v / k ≡ n - 1 = ap (λ i. i / k) by_node ∙ div-mul-add (n - 1) k (k - 1) (omega arith) in
    let last : v % n ≡ n - 1 = ap (λ i. i % n) by_letter ∙ mod-mul-add (k - 1) n (n - 1) (omega arith) in
    let letter : v / n ≡ k - 1 = ap (λ i. i / n) by_letter ∙ div-mul-add (k - 1) n (n - 1) (omega arith) in
    let within : v < k ^ r.width = omega (arith, rule.entries, long, rows) in
    keeps-loop rule keep v within (first ∙ sym last) ∙ letter
