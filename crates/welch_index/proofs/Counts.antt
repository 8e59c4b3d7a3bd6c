-- The number of nodes in a set is the sum of what says of each node whether it is in the set.
use Rattle.std.proofs.Common.{◌≡◌, ℕ, zero, suc, ◌+◌, ◌-◌, ◌*◌, ◌/◌, ◌%◌, ◌^◌, ◌<◌, ◌≤◌, ◌↔◌, count_ones, sym, ap, ◌∙◌, ⊎_elim, arith, div-add-mod', mod-lt, pow_pos, pow-suc, mul_comm, mod-eq_of_lt, eq-eqb, ne_eqb}
use Rattle.std.proofs.lemmas.Nat.{ones_cat, ones_le_self, zero_from_ones, div_below}
use Rattle.std.proofs.lemmas.Nat.Bits.{bit_at_cat_low, bit_at_cat_high, bit_at-lt, bit_at_lowest}
use Rattle.std.specs.Int.{bit_at}
use Rattle.word_image.proofs.Common.{cases_eq, cases_lt, bit_at-IsBitSet, from_bool}
use Rattle.word_image.specs.Graphs.{IsSetOf}
use Rattle.welch_index.proofs.Totals.{total, total-same, total-mul, total-swap, at_place}
use Rattle.welch_index.proofs.Pulls.{total-at_place}

-- a number below 2 has as many ones as it says
ones_bit : (a : ℕ) → a < 2 → count_ones a ≡ a
ones_bit a l =
    ⊎_elim
    (λ some. omega (arith, some, ones_le_self a, l))
    (λ le. let none = zero_from_ones a (omega (arith, le)) in omega (arith, none, le))
    (cases_lt 0 (count_ones a))

-- the ones of a number below 2 ^ n are the sum of its bits
pub ones-total : (n set : ℕ) → set < 2 ^ n → count_ones set ≡ total (bit_at set) n
ones-total zero set l = omega (arith, ones_le_self set, l)
ones-total (suc n) set l =
    let high = set / 2 ^ n in
    let low = set % 2 ^ n in
    let cut : set ≡ high * 2 ^ n + low = sym (div-add-mod' set (2 ^ n)) in
    let below : low < 2 ^ n = mod-lt set (pow_pos n) in
    let twice : set < 2 ^ n * 2 = omega (arith, l, pow-suc 2 n) in
    let bit : high < 2 = div_below set (2 ^ n) 2 (pow_pos n) (omega (arith, twice, mul_comm (2 ^ n) 2)) in
    let lower = total-same (bit_at set) (bit_at low) n (λ i h. ap (λ s. bit_at s i) cut ∙ bit_at_cat_low high n low i h) in
    let same : n - n ≡ 0 = omega arith in
    let top : bit_at set n ≡ high = ap (λ s. bit_at s n) cut ∙ bit_at_cat_high high n low n below (omega arith) ∙ ap (bit_at high) same ∙ bit_at_lowest high ∙ mod-eq_of_lt bit in
    ap count_ones cut ∙ ones_cat n high low below ∙ omega (arith, ones_bit high bit, ones-total n low below, lower, top)

-- a set has as many numbers as a sum says that is 1 for each of them and 0 for others
pub ones-IsSetOf : {P : ℕ → Type 0} (n set : ℕ) (x : ℕ → ℕ) → IsSetOf n P set → ((u : ℕ) → u < n → x u ≤ 1) → ((u : ℕ) → u < n → (0 < x u) ↔ P u)
    → count_ones set ≡ total x n
ones-IsSetOf n set x is most says =
    ones-total n set is.within ∙ total-same (bit_at set) x n (λ u l.
    let bit = bit_at-lt set u in
    let few = most u l in
    ⊎_elim
    (λ some. let one = (bit_at-IsBitSet set u).0 ((is.nodes u l).1 ((says u l).0 some)) in omega (arith, one, some, few))
    (λ none. ⊎_elim (λ is_set. let some = (says u l).1 ((is.nodes u l).0 ((bit_at-IsBitSet set u).1 (omega (arith, is_set, bit)))) in absurd (omega (arith, some, none))) (λ zeroth. omega (arith, none, zeroth)) (cases_lt 0 (bit_at set u)))
    (cases_lt 0 (x u)))

-- either of two numbers may be the place
pub flipped : (a u : ℕ) → at_place a u ≡ 1 * at_place u a
flipped a u =
    ⊎_elim
    (λ same. let one = ap from_bool (eq-eqb u a same) in let two = ap from_bool (eq-eqb a u (sym same)) in omega (arith, one, two))
    (λ other. let one = ap from_bool (ne_eqb u a other) in let two = ap from_bool (ne_eqb a u (λ e. other (sym e))) in omega (arith, one, two))
    (cases_eq u a)

-- a sum over renamed numbers is the sum over the numbers, if the names are undone
pub total-permuted : (n : ℕ) (f name back : ℕ → ℕ) → ((u : ℕ) → u < n → name u < n) → ((u : ℕ) → u < n → back u < n) → ((u : ℕ) → u < n → back (name u) ≡ u)
    → ((u : ℕ) → u < n → name (back u) ≡ u) → total (λ u. f (name u)) n ≡ total f n
total-permuted n f name back below other there here =
    let turned : (t u : ℕ) → t < n → u < n → at_place t (name u) ≡ at_place (back t) u = λ t u ht hu.
    ⊎_elim
    (λ same. ap from_bool (eq-eqb (name u) t same) ∙ sym (ap from_bool (eq-eqb u (back t) (sym (there u hu) ∙ ap back same))))
    (λ apart. ap from_bool (ne_eqb (name u) t apart) ∙ sym (ap from_bool (ne_eqb u (back t) (λ e. apart (ap name e ∙ here t ht)))))
    (cases_eq (name u) t) in
    total-same (λ u. f (name u)) (λ u. total (λ t. f t * at_place t (name u)) n) n (λ u l. sym (total-at_place f (name u) n (below u l)))
    ∙ total-swap (λ u t. f t * at_place t (name u)) n n
    ∙ total-same (λ t. total (λ u. f t * at_place t (name u)) n) f n (λ t l.
    total-mul (f t) (λ u. at_place t (name u)) n
    ∙ ap (λ y. f t * y) (total-same (λ u. at_place t (name u)) (λ u. 1 * at_place u (back t)) n (λ u h. turned t u l h ∙ flipped (back t) u) ∙ total-at_place (λ u. 1) (back t) n (other t l))
    ∙ omega arith)

-- names that undo themselves
pub total-renamed : (n : ℕ) (f name : ℕ → ℕ) → ((u : ℕ) → u < n → name u < n) → ((u : ℕ) → u < n → name (name u) ≡ u) → total (λ u. f (name u)) n ≡ total f n
total-renamed n f name below back = total-permuted n f name name below below back back
