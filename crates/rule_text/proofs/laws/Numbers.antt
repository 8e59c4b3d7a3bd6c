-- Wolfram numbers and the rules that they stand for.
use Rattle.std.proofs.Common.{◌≡◌, ℕ, zero, suc, ◌+◌, ◌-◌, ◌*◌, ◌/◌, ◌^◌, ◌<◌, ◌≤◌, Bool, ◌&&◌, ◌||◌, List, [], ◌∷◌, ◌++◌, length, reverse, take, drop, map-id, add-one, zero-add, length-drop, length-take-le, Some, get_or, refl, sym, ap, ◌∙◌, arith, true, mod-lt, zero-mul, ℤ, nat_lt, nat_le, ◌↔◌, sum_by, div-add-mod', take_all}
use Rattle.word_image.proofs.Common.{range_with_len, div-eq_of_lt, pow-le-pow_right, nat_tests, Decides-below_and, length-reverse, reverse-append, drop_more, take_more, map-range_with_len_more, sum_by_push, All-drop, LocalRule, IsShape, IsRule, value, word_of, wolfram_number, IsWord-reverse, shape_fault-IsShape, length-word_of, IsWord-word_of, value-snoc, value-below}
use Rattle.rule_text.specs.declared.text_fault.TextFault.TheVariants as fault
use Rattle.rule_text.specs.RuleTexts.{Said, Number, entries_fault, fault_of}

-- a test passes at all numbers below a limit
abbrev all_below : (ℕ → Bool) → ℕ → Bool
all_below p zero = true
all_below p (suc n) = p n && all_below p n

-- the test passes at each number below
all_below-is : (p : ℕ → Bool) (n : ℕ) → all_below p n ≡ true → (i : ℕ) → i < n → p i ≡ true
all_below-is p n = (Decides-below_and p (λ i. p i ≡ true) (all_below p) (λ i. (λ e. e, λ e. e)) refl (λ m. refl) n).0

-- the limit of a shape fits 128 bits, or the shape isn't accepted
abbrev fits : ℕ → ℕ → Bool
fits k m = nat_lt k 2 || (nat_lt m 2 || (nat_lt 16 (k ^ (m - 1)) || nat_le (k ^ (k ^ m)) (2 ^ 128)))

-- with at most 6 states every number of an accepted shape fits 128 bits
pub number_limit : (k m : ℕ) (o : ℤ) → IsShape k m o → k ≤ 6 → k ^ (k ^ m) ≤ 2 ^ 128
number_limit k m o shape few =
    let row : all_below (fits k) 6 ≡ true = all_below-is (λ k. all_below (fits k) 6) 7 refl k (omega arith) in
    let states = shape.least_states in
    let least = shape.least_width in
    let nodes = shape.most_nodes in
    grind (arith, nat_tests)

-- of an accepted shape the entries alone may have a fault
pub fault_of-shape : (s : Said) → IsShape s.states s.width s.offset → fault_of s ≡ entries_fault s s.entries
fault_of-shape s shape = grind (arith, shape_fault-IsShape)

-- the digits of a number of an accepted shape are the table of a rule
pub IsRule-number : (k m : ℕ) (o p : ℤ) (long n : ℕ) (table : List ℕ) → IsShape k m o → p ≡ o → long ≡ k ^ m → n < k ^ long
    → table ≡ reverse (word_of k long n) → IsRule (record { states = k; width = m; offset = p; table = table })
IsRule-number k m o p long n table shape same size below is =
    grind (arith, IsWord-reverse, IsWord-word_of, length-reverse, length-word_of)

-- a number from k ^ (k ^ m) on has no table
pub fault_of-beyond : (k m : ℕ) (o : ℤ) (place n : ℕ) → IsShape k m o → k ≤ 6 → k ^ (k ^ m) ≤ n
    → fault_of (record { states = k; width = m; offset = o; entries = Number n; place = place }) ≡ Some fault.Number
fault_of-beyond k m o place n shape few beyond = grind (arith, nat_tests, fault_of-shape)

-- what is below a power is what is left with nothing
pub div-is_zero : (n p : ℕ) → 0 < p → (n / p ≡ 0) ↔ (n < p)
div-is_zero n p some = (λ none. let whole = div-add-mod' n p in let zeroth : n / p * p ≡ 0 = ap (λ j. j * p) none ∙ zero-mul p in omega (arith, mod-lt n some), λ below. div-eq_of_lt below)

-- the number of the letters from one place on, with the letter before them
pub value-reverse_drop : (k : ℕ) (t : List ℕ) (i : ℕ) → 0 < i → i ≤ length t
    → value k (reverse (drop (i - 1) t)) ≡ value k (reverse (drop i t)) * k + get_or t (i - 1) 0
value-reverse_drop k t i some within =
    let j = i - 1 in
    let next : j + 1 ≡ i = omega arith in
    let split : drop j t ≡ get_or t j 0 ∷ drop i t = drop_more t j 0 (omega arith) ∙ ap (λ n. get_or t j 0 ∷ drop n t) next in
    ap (λ x. value k (reverse x)) split ∙ ap (value k) (reverse-append (get_or t j 0 ∷ []) (drop i t)) ∙ value-snoc k (reverse (drop i t)) (get_or t j 0)

-- the number of the letters from one place on fits 128 bits where there are at most 6 states
pub value-reverse_drop-below : {r : LocalRule} → IsRule r → r.states < 7 → (i : ℕ) → value r.states (reverse (drop i r.table)) < 2 ^ 128
value-reverse_drop-below {r = r} rule few i =
    let k = r.states in
    let w = reverse (drop i r.table) in
    let long : length w ≤ k ^ r.width = omega (arith, length-reverse (drop i r.table), length-drop i r.table, rule.entries) in
    let below = value-below k w (IsWord-reverse k (drop i r.table) (All-drop (λ a. a < k) i r.table rule.letters)) in
    let grows : k ^ length w ≤ k ^ (k ^ r.width) = pow-le-pow_right (omega arith) long in
    omega (arith, below, grows, number_limit k r.width r.offset rule.shape (omega arith))

-- the sum over the first windows is the number of the first letters
sum_by-first : (k : ℕ) (t : List ℕ) (n : ℕ) → n ≤ length t → sum_by (λ v. get_or t v 0 * k ^ v) (range_with_len 0 n) ≡ value k (reverse (take n t))
sum_by-first k t zero within = refl
sum_by-first k t (suc n) within =
    let term = λ (v : ℕ). get_or t v 0 * k ^ v in
    let first = reverse (take n t) in
    let a = get_or t n 0 in
    let more = sym (map-id (range_with_len 0 (n + 1))) ∙ map-range_with_len_more (λ (v : ℕ). v) 0 n n (zero-add n)
    ∙ ap (λ x. x ++ n ∷ []) (map-id (range_with_len 0 n)) in
    let long : length first ≡ n = length-reverse (take n t) ∙ length-take-le n t (omega arith) in
    let backwards : reverse (take (suc n) t) ≡ a ∷ first =
    ap (λ j. reverse (take j t)) (sym (add-one n)) ∙ ap reverse (take_more t n 0 (omega arith)) ∙ reverse-append (take n t) (a ∷ []) in
    let whole : value k (reverse (take (suc n) t)) ≡ a * k ^ n + value k first = ap (value k) backwards ∙ ap (λ j. a * k ^ j + value k first) long in
    let sum = ap (λ j. sum_by term (range_with_len 0 j)) (sym (add-one n)) ∙ ap (sum_by term) more ∙ sum_by_push term (range_with_len 0 n) n in
    omega (arith, sum, whole, sum_by-first k t n (omega arith))

-- the Wolfram number is the number whose digits are the table, the last letter the most significant
pub wolfram_number-value : {r : LocalRule} → IsRule r → wolfram_number r ≡ value r.states (reverse r.table)
wolfram_number-value {r = r} rule =
    sum_by-first r.states r.table (r.states ^ r.width) (omega (arith, rule.entries)) ∙ ap (λ x. value r.states (reverse x)) (take_all (r.states ^ r.width) r.table (omega (arith, rule.entries)))
