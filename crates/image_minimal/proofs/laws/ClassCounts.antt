-- How many classes there are, after numbers are joined.
use Rattle.image_minimal.proofs.Common.{◌≡◌, ◌≢◌, ℕ, ◌+◌, ◌*◌, ◌<◌, ◌≤◌, List, length, map, get_or, set, slice_index, nat_eq, true, false, sym, ap, ◌∙◌, arith, ext_get_or, get_or-set_same, get_or-set_other, length-set, eq-eqb, ne_eqb, range_with_len, sum_by-set, if◌then◌else◌, sum_by, All-map, get_or-map-range_with_len, length-map-range_with_len, sum_by-le, class_count, root_mark, each-set}

-- a mark is 0 or 1
root_mark-le : (number parent : ℕ) → root_mark number parent ≤ 1
root_mark-le number parent = elim (nat_eq parent number) as (λ b. (if b then 1 else 0) ≤ 1) [ true ↦ omega arith | false ↦ omega arith ]

-- there are no more classes than numbers
pub class_count-le : (parents : List ℕ) → class_count parents ≤ length parents
class_count-le parents =
    let f : ℕ → ℕ = λ x. root_mark x (slice_index parents x) in
    let numbers = range_with_len 0 (length parents) in
    let marks = map f numbers in
    let few : sum_by (λ m. m) marks ≤ length marks * 1 = sum_by-le (λ m. m) 1 marks (All-map (λ m. m ≤ 1) f numbers (λ k d l. root_mark-le (get_or numbers k d) (slice_index parents (get_or numbers k d)))) in
    omega (arith, few, length-map-range_with_len f 0 (length parents))

-- the number of classes after a number has another parent
class_count-set : (parents : List ℕ) (i parent : ℕ) → i < length parents
    → class_count (set parents i parent) + root_mark i (slice_index parents i) ≡ class_count parents + root_mark i parent
class_count-set parents i parent inside =
    let n : ℕ = length parents in
    let new : List ℕ = set parents i parent in
    let long : length new ≡ n = length-set parents i parent in
    let f : ℕ → ℕ = λ x. root_mark x (slice_index parents x) in
    let g : ℕ → ℕ = λ x. root_mark x (slice_index new x) in
    let marks : List ℕ = map f (range_with_len 0 n) in
    let changed : List ℕ = map g (range_with_len 0 (length new)) in
    let count : length marks ≡ n = length-map-range_with_len f 0 n in
    let also : length changed ≡ length new = length-map-range_with_len g 0 (length new) in
    let read : (x : ℕ) → x < n → get_or marks x 0 ≡ f x = λ x l. get_or-map-range_with_len f 0 n x x 0 l (omega arith) in
    let reread : (x : ℕ) → x < n → get_or changed x 0 ≡ g x = λ x l. get_or-map-range_with_len g 0 (length new) x x 0 (omega (arith, l, long)) (omega arith) in
    let here : root_mark i parent ≡ get_or changed i 0 = ap (root_mark i) (sym (get_or-set_same parents i parent 0 inside)) ∙ sym (reread i inside) in
    let others : (x : ℕ) → x < length marks → x ≢ i → get_or marks x 0 ≡ get_or changed x 0 = grind (arith, get_or-set_other) in
    let same : set marks i (root_mark i parent) ≡ changed =
    ext_get_or 0 (set marks i (root_mark i parent)) changed (length-set marks i (root_mark i parent) ∙ count ∙ sym long ∙ sym also)
    (each-set (λ x mark. mark ≡ get_or changed x 0) marks i 0 (root_mark i parent) (omega (arith, inside, count)) others here) in
    omega (arith, ap (sum_by (λ m. m)) same, sum_by-set (λ m. m) marks i (root_mark i parent) 0 (omega (arith, inside, count)), read i inside)

-- a number with a lesser parent is no root
pub class_count-lower : (parents : List ℕ) (i parent : ℕ) → i < length parents → parent < i
    → class_count (set parents i parent) + root_mark i (slice_index parents i) ≡ class_count parents
class_count-lower parents i parent inside less = grind (arith, ne_eqb, class_count-set)

-- a root that gets a lesser parent is a root no more
pub class_count-root : (parents : List ℕ) (i parent : ℕ) → i < length parents → slice_index parents i ≡ i → parent < i
    → class_count (set parents i parent) + 1 ≡ class_count parents
class_count-root parents i parent inside root less = grind (arith, eq-eqb, class_count-lower)
