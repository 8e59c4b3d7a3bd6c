-- A set of pairs of n nodes has two forms: rows of bits, in which bit v of row u says whether the pair (u, v) is in the
-- set, and a list with a truth value for each pair. This file proves that each form determines the other.
use Rattle.std.proofs.Common.{◌≡◌, ◌==◌, ℕ, suc, ◌+◌, ◌-◌, ◌*◌, ◌/◌, ◌%◌, ◌^◌, ◌<◌, ◌≤◌, List, [], length, map, replicate, take, drop, Bool, true, false, get_or, slice_index, cond, refl, sym, ap, ap₂, ◌∙◌, subst, arith, ⊎_elim, eq-eqb, mod-lt, take_all}
use Rattle.std.specs.Int.{bit_at}
use Rattle.std.specs.List.{range_with_len}
use Rattle.std.specs.Simd.Lanes.{mask_l, chunk}
use Rattle.std.proofs.lemmas.Bool.{cases_eq, cases_lt, ne_eqb}
use Rattle.std.proofs.lemmas.List.{get_or-replicate, length-replicate, drop_all}
use Rattle.std.proofs.lemmas.List.FromFn.{fill_by_all, length-map-range_with_len, get_or-map-range_with_len, get_or-range_with_len}
use Rattle.std.proofs.lemmas.Nat.{mul-lt, div-mul-add, mod-mul-add, div_below, mul-add-lt}
use Rattle.std.proofs.lemmas.Nat.Bits.{bit_at_ones, bit_at-lt, same_from_bits_below}
use Rattle.std.proofs.lemmas.Simd.{length-chunk, get_or-chunk, mask_l-lt, bit_mask_l}
use Rattle.std.proofs.Math.Nat.{mul-le-mul_right, suc-mul}
use Rattle.word_image.specs.LocalRules.{most_nodes}
use Rattle.pair_graph.specs.PairSets.{holds, truths, nodes_of, rows_of, AreRows}

-- the truth value of pair p is true if and only if the bit of p in the rows is 1
pub holds_bit : (n : ℕ) (rows : List ℕ) (p : ℕ) → p < n * n → holds (truths n rows) p ≡ (bit_at (slice_index rows (p / n)) (p % n) == 1)
holds_bit n rows p inside = get_or-map-range_with_len (λ q. bit_at (slice_index rows (q / n)) (q % n) == 1) 0 (n * n) p p false inside (omega arith)

-- there is a truth value for each pair of n nodes
pub length-truths : (n : ℕ) (rows : List ℕ) → length (truths n rows) ≡ n * n
length-truths n rows = length-map-range_with_len (λ p. bit_at (slice_index rows (p / n)) (p % n) == 1) 0 (n * n)

-- numbers with equal squares are equal
pub same_roots : (n m : ℕ) → n * n ≡ m * m → n ≡ m
same_roots n m same = ⊎_elim
    (λ less. absurd (omega (arith, same, mul-lt n n m m less less)))
    (λ most. ⊎_elim (λ more. absurd (omega (arith, same, mul-lt m m n n more more))) (λ least. omega (arith, most, least)) (cases_lt m n))
    (cases_lt n m)

-- if each row is the set of all n nodes, the truth value of each pair is true
pub truths-all : (n : ℕ) (rows : List ℕ) → ((u : ℕ) → u < n → slice_index rows u ≡ 2 ^ n - 1) → truths n rows ≡ replicate (n * n) true
truths-all n rows full = sym (fill_by_all (λ p. bit_at (slice_index rows (p / n)) (p % n) == 1) (replicate (n * n) true) (n * n) false (length-replicate (n * n) true)
    (λ p inside.
    let some : 0 < n = ⊎_elim (λ none. absurd (omega (arith, inside, ap (λ m. m * n) none))) (λ other. omega (arith, other)) (cases_eq n 0) in
    let bit : bit_at (slice_index rows (p / n)) (p % n) ≡ 1 = ap (λ row. bit_at row (p % n)) (full (p / n) (div_below p n n some inside)) ∙ bit_at_ones n (p % n) (mod-lt p some) in
    get_or-replicate (n * n) p true false inside ∙ sym (eq-eqb (bit_at (slice_index rows (p / n)) (p % n)) 1 bit)))

-- the number that is 1 if a bit is 1, and 0 if it isn't, is the bit itself
bit_tested : (a i : ℕ) → cond (bit_at a i == 1) 1 0 ≡ bit_at a i
bit_tested a i = ⊎_elim
    (λ one. ap (λ (b : Bool). cond {A = ℕ} b 1 0) (eq-eqb (bit_at a i) 1 one) ∙ sym one)
    (λ other. let none : bit_at a i ≡ 0 = omega (arith, bit_at-lt a i, other) in ap (λ (b : Bool). cond {A = ℕ} b 1 0) (ne_eqb (bit_at a i) 1 other) ∙ sym none)
    (cases_eq (bit_at a i) 1)

-- row u is the number whose bits are the truth values of the pairs with the first node u
row_of_truths : (n : ℕ) (rows : List ℕ) → AreRows n rows → (u : ℕ) → u < n → mask_l (chunk (u * n) n (truths n rows)) ≡ slice_index rows u
row_of_truths n rows h u inside =
    let set = truths n rows in
    let long = length-truths n rows in
    let more : suc u * n ≤ n * n = mul-le-mul_right n inside in
    let room : u * n + n ≤ n * n = omega (arith, more, suc-mul u n) in
    let part = chunk (u * n) n set in
    let short : length part ≡ n = length-chunk (u * n) n set (omega (arith, long, room)) in
    same_from_bits_below n (mask_l part) (slice_index rows u) (subst (λ m. mask_l part < 2 ^ m) short (mask_l-lt part)) (h.within u inside)
    (λ i below.
    let at : (u * n + i) / n ≡ u = div-mul-add u n i below in
    let place : (u * n + i) % n ≡ i = mod-mul-add u n i below in
    bit_mask_l part i
    ∙ ap (λ (b : Bool). cond {A = ℕ} b 1 0) (get_or-chunk (u * n) n set i false below ∙ holds_bit n rows (u * n + i) (mul-add-lt u n i n inside below)
    ∙ ap₂ (λ (x y : ℕ). bit_at (slice_index rows x) y == 1) at place)
    ∙ bit_tested (slice_index rows u) i)

-- row n and all later rows are 0, and there are no truth values for them
no_row : (n : ℕ) (rows : List ℕ) → AreRows n rows → (u : ℕ) → n ≤ u → mask_l (chunk (u * n) n (truths n rows)) ≡ slice_index rows u
no_row n rows h u more =
    let past : n * n ≤ u * n = mul-le-mul_right n more in
    let none : drop (u * n) (truths n rows) ≡ [] = drop_all (u * n) (truths n rows) (omega (arith, length-truths n rows, past)) in
    ap (λ l. mask_l (take n l)) none ∙ ap mask_l (take_all n [] (omega arith)) ∙ sym (h.past u more)

-- the rows that the truth values of a set give are the rows of the set
pub rows_of-truths : (n : ℕ) (rows : List ℕ) → AreRows n rows → rows_of n (truths n rows) ≡ rows
rows_of-truths n rows h = sym (fill_by_all (λ u. mask_l (chunk (u * n) n (truths n rows))) rows 16 0 h.long
    (λ u inside. ⊎_elim (λ less. sym (row_of_truths n rows h u less)) (λ more. sym (no_row n rows h u more)) (cases_lt u n)))

-- the number of pairs determines the number of nodes
pub nodes_of-square : (n : ℕ) → n ≤ most_nodes → nodes_of (n * n) ≡ n
nodes_of-square n few =
    let all : map (λ m. nodes_of (m * m)) (range_with_len 0 17) ≡ range_with_len 0 17 = refl in
    sym (get_or-map-range_with_len (λ m. nodes_of (m * m)) 0 17 n n 0 (omega arith) (omega arith)) ∙ ap (λ l. get_or l n 0) all ∙ get_or-range_with_len 0 17 n 0 (omega arith) ∙ omega arith

pub nodes_of-truths : (n : ℕ) (rows : List ℕ) → AreRows n rows → nodes_of (length (truths n rows)) ≡ n
nodes_of-truths n rows h = ap nodes_of (length-truths n rows) ∙ nodes_of-square n h.most

-- two sets of pairs with equal truth values have equal rows
pub same_rows : (n m : ℕ) (rows others : List ℕ) → AreRows n rows → AreRows m others → truths n rows ≡ truths m others → rows ≡ others
same_rows n m rows others first second same =
    let nodes : n ≡ m = same_roots n m (sym (length-truths n rows) ∙ ap length same ∙ length-truths m others) in
    sym (rows_of-truths n rows first) ∙ ap₂ rows_of nodes same ∙ rows_of-truths m others second
