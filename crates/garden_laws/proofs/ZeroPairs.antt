-- Under a surjective rule as many words have the image 0 0 as there are nodes.
use Rattle.std.proofs.Common.{◌≡◌, ℕ, suc, ◌+◌, ◌-◌, ◌*◌, ◌/◌, ◌%◌, ◌^◌, ◌<◌, ◌≤◌, ◌↔◌, List, [], ◌∷◌, ◌++◌, length, take, drop, slice_index, Bool, true, false, sym, ap, ap₂, ◌∙◌, arith, pow-suc, length-drop, ◌==◌, ◌&&◌, add-mul, mul_assoc, mul_comm, length-take-le}
use Rattle.word_image.proofs.Common.{false≢true, mul-add-lt, div-mul-add, mod-mul-add, All-cons, All-nil, LocalRule, IsRule, IsWord, value, node_count, image, IsSurjective, value-drop, value-front}
use Rattle.pair_laws.proofs.Common.{image-window, image-cut}
use Rattle.garden_laws.specs.ZeroPairs.{count_below, gives_zeros, zero_pairs}
use Rattle.garden_laws.proofs.TestedWords.{count_below-image}

-- the image of a word of m + 1 letters, by its value
image-two : {r : LocalRule} → IsRule r → (x : List ℕ) → IsWord r.states x → length x ≡ 2 + (r.width - 1)
    → image r x ≡ slice_index r.table (value r.states x / r.states) ∷ slice_index r.table (value r.states x % length r.table) ∷ []
image-two {r} rule x word long =
    let k : ℕ = r.states in
    let m : ℕ = 1 + (r.width - 1) in
    let rest : length x - 1 ≡ r.width = omega arith in
    let first : value k (take m x) ≡ value k x / k = value-front k m x word (omega arith) in
    let second : value k (drop 1 x) ≡ value k x % length r.table = value-drop k 1 x word (omega arith) ∙ ap (λ n. value k x % k ^ n) rest ∙ ap (λ n. value k x % n) (sym rule.entries) in
    image-cut rule 1 x
    ∙ ap₂ (λ (u v : List ℕ). u ++ v) (image-window rule (take m x) (length-take-le m x (omega arith))) (image-window rule (drop 1 x) (omega (arith, length-drop 1 x)))
    ∙ ap₂ (λ (a b : ℕ). slice_index r.table a ∷ slice_index r.table b ∷ []) first second

-- two letters are tested for 0
two_zeros : (a b : ℕ) → (((a == 0) && (b == 0)) ≡ true) ↔ ((a ∷ b ∷ []) ≡ (0 ∷ 0 ∷ []))
two_zeros a b = grind arith

-- under a surjective rule as many words have the image 0 0 as there are nodes
pub zero_pairs-surjective : {r : LocalRule} → IsRule r → IsSurjective r → zero_pairs r.states r.table ≡ node_count r
zero_pairs-surjective {r} rule every =
    let k : ℕ = r.states in
    let some : 0 < k = let two : 2 ≤ k = rule.shape.least_states in omega arith in
    let one : suc r.width ≡ 2 + (r.width - 1) = omega arith in
    let size : length r.table * k ≡ k ^ (2 + (r.width - 1)) = ap (λ n. n * k) rule.entries ∙ sym (pow-suc k r.width) ∙ ap (λ n. k ^ n) one in
    ap (count_below (gives_zeros k r.table)) size
    ∙ count_below-image rule every (0 ∷ 0 ∷ []) (All-cons (λ b. b < k) 0 (0 ∷ []) some (All-cons (λ b. b < k) 0 [] some (All-nil (λ b. b < k)))) (gives_zeros k r.table) (λ x word long.
    let given = image-two rule x word long in
    let test = two_zeros (slice_index r.table (value k x / k)) (slice_index r.table (value k x % length r.table)) in
    (λ yes. given ∙ test.0 yes, λ maps. test.1 (sym given ∙ maps)))

-- the words that begin with a window, by its first letter and its last node
pub gives_zeros-block : (k n : ℕ) (table : List ℕ) (b v a : ℕ) → length table ≡ n * k → v < n → a < k
    → gives_zeros k table ((b * n + v) * k + a) ≡ ((slice_index table (b * n + v) == 0) && (slice_index table (v * k + a) == 0))
gives_zeros-block k n table b v a long node letter =
    let w : ℕ = b * n + v in
    let whole : w * k + a ≡ b * (n * k) + (v * k + a) = omega (arith, add-mul (b * n) v k, mul_assoc b n k) in
    let turned = mul_comm k n in
    let within : v * k + a < n * k = omega (arith, mul-add-lt v k a n node letter, turned) in
    let rest : (w * k + a) % length table ≡ v * k + a = ap (λ i. (w * k + a) % i) long ∙ ap (λ i. i % (n * k)) whole ∙ mod-mul-add b (n * k) (v * k + a) within in
    ap₂ (λ (i j : ℕ). (slice_index table i == 0) && (slice_index table j == 0)) (div-mul-add w k a letter) rest
