-- Tables of consecutive numbers: a table has the digits of its number, the first letter the least significant.
use Rattle.std.proofs.Common.{◌≡◌, ℕ, zero, suc, ◌+◌, ◌*◌, ◌^◌, ◌<◌, List, [], ◌∷◌, length, reverse, get_or, set, refl, sym, ap, ◌∙◌, subst, arith, pow-suc, pos, mul-add, mul_assoc, mul_comm, mul-one, one-mul}
use Rattle.word_image.proofs.Common.{pow-zero, reverse-append, reverse-reverse, length-reverse, LocalRule, IsRule, IsWord, value, word_of, wolfram_number, value-snoc, word_of-value, value-word_of, length-word_of, IsWord-reverse}
use Rattle.rule_text.proofs.laws.Numbers.{wolfram_number-value}
use Rattle.rule_text.specs.RuleTexts.{rule_of_table}
use Rattle.rule_verdicts.specs.Numbers.{numbered_rule}

-- the number of a table
low : ℕ → List ℕ → ℕ
low k [] = 0
low k (a ∷ w) = a + k * low k w

low-value : (k : ℕ) (w : List ℕ) → value k (reverse w) ≡ low k w
unfolding low
low-value k [] = refl
low-value k (a ∷ w) =
    ap (value k) (reverse-append (a ∷ []) w) ∙ value-snoc k (reverse w) a ∙ omega (arith, ap (λ n. n * k) (low-value k w), mul_comm (low k w) k)

-- the number of a table with another letter at a place
low-set : (k : ℕ) (w : List ℕ) (i x : ℕ) → i < length w → low k (set w i x) + k ^ i * get_or w i 0 ≡ low k w + k ^ i * x
unfolding low
low-set k [] i x l = absurd (omega arith)
low-set k (a ∷ w) zero x l =
    let one : (y : ℕ) → k ^ 0 * y ≡ y = λ y. ap (λ n. n * y) (pow-zero k) ∙ one-mul y in
    omega (arith, one a, one x)
low-set k (a ∷ w) (suc i) x l =
    let more : (y : ℕ) → k ^ suc i * y ≡ k * (k ^ i * y) = λ y. ap (λ n. n * y) (pow-suc k i ∙ mul_comm (k ^ i) k) ∙ mul_assoc k (k ^ i) y in
    let rest : k * (low k (set w i x) + k ^ i * get_or w i 0) ≡ k * (low k w + k ^ i * x) = ap (λ n. k * n) (low-set k w i x (omega arith)) in
    omega (arith, rest, more (get_or w i 0), more x, mul-add k (low k (set w i x)) (k ^ i * get_or w i 0), mul-add k (low k w) (k ^ i * x))

-- a letter more by one is k ^ i more
pub value-set_more : (k : ℕ) (w : List ℕ) (i x : ℕ) → i < length w → get_or w i 0 ≡ x
    → value k (reverse (set w i (x + 1))) ≡ value k (reverse w) + k ^ i
value-set_more k w i x l here =
    let one : k ^ i * (x + 1) ≡ k ^ i * x + k ^ i * 1 = mul-add (k ^ i) x 1 in
    let old : k ^ i * get_or w i 0 ≡ k ^ i * x = ap (λ n. k ^ i * n) here in
    omega (arith, low-value k w, low-value k (set w i (x + 1)), low-set k w i (x + 1) l, one, old, mul-one (k ^ i))

-- 0 in the place of the last letter, and a step at the place is one at the next
pub value-set_carry : (k : ℕ) (w : List ℕ) (i x : ℕ) → i < length w → get_or w i 0 ≡ x → x + 1 ≡ k
    → value k (reverse (set w i 0)) + k ^ (i + 1) ≡ value k (reverse w) + k ^ i
value-set_carry k w i x l here last =
    let one : k ^ i * (x + 1) ≡ k ^ i * x + k ^ i * 1 = mul-add (k ^ i) x 1 in
    let old : k ^ i * get_or w i 0 ≡ k ^ i * x = ap (λ n. k ^ i * n) here in
    let power : k ^ (i + 1) ≡ k ^ i * k = let e : i + 1 ≡ suc i = omega arith in ap (λ n. k ^ n) e ∙ pow-suc k i in
    let none : k ^ i * 0 ≡ 0 = omega arith in
    omega (arith, low-value k w, low-value k (set w i 0), low-set k w i 0 l, one, old, mul-one (k ^ i), power, ap (λ n. k ^ i * n) last, none)

-- the rule of a table is that of its number
pub numbered_rule-table : (k m : ℕ) (table : List ℕ) → IsRule (rule_of_table k m table)
    → numbered_rule k m (value k (reverse table)) ≡ rule_of_table k m table
numbered_rule-table k m table rule =
    let word : IsWord k (reverse table) = IsWord-reverse k table rule.letters in
    let long : length (reverse table) ≡ k ^ m = length-reverse table ∙ rule.entries in
    let back : reverse (word_of k (k ^ m) (value k (reverse table))) ≡ table =
    ap (λ n. reverse (word_of k n (value k (reverse table)))) (sym long) ∙ ap reverse (word_of-value k (reverse table) word) ∙ reverse-reverse table in
    ap (rule_of_table k m) back

-- a rule at offset 0 is the rule of its Wolfram number
pub numbered_rule-wolfram : {r : LocalRule} → IsRule r → r.offset ≡ pos 0 → numbered_rule r.states r.width (wolfram_number r) ≡ r
numbered_rule-wolfram {r} rule offset =
    let own : r ≡ rule_of_table r.states r.width r.table = ap (λ o. record { states = r.states; width = r.width; offset = o; table = r.table }) offset in
    ap (numbered_rule r.states r.width) (wolfram_number-value rule) ∙ numbered_rule-table r.states r.width r.table (subst IsRule own rule) ∙ sym own

-- the table of the rule with a number has k ^ m letters
pub length-numbered : (k m n : ℕ) (r : LocalRule) (table : List ℕ) → r ≡ numbered_rule k m n → table ≡ r.table → length table ≡ k ^ m
length-numbered k m n r table rule same = ap length (same ∙ ap (λ (q : LocalRule). q.table) rule) ∙ length-reverse (word_of k (k ^ m) n) ∙ length-word_of k (k ^ m) n

-- the number of the table of a number
pub value-numbered : (k m n : ℕ) (r : LocalRule) (table : List ℕ) → n < k ^ (k ^ m) → r ≡ numbered_rule k m n → table ≡ r.table
    → value k (reverse table) ≡ n
value-numbered k m n r table below rule same =
    ap (λ (w : List ℕ). value k (reverse w)) (same ∙ ap (λ (q : LocalRule). q.table) rule) ∙ ap (value k) (reverse-reverse (word_of k (k ^ m) n)) ∙ value-word_of k (k ^ m) n below
