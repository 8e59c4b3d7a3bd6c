-- How many words of one length there are, where at most 65,536 words have n letters.
use Rattle.std.proofs.Common.{◌≡◌, ℕ, ◌+◌, ◌-◌, ◌*◌, ◌%◌, ◌^◌, ◌<◌, ◌≤◌, sym, ap, ◌∙◌, ⊎_elim, arith, mul-le-mul, pow-add}
use Rattle.word_image.proofs.Common.{mul-mod_left, one-le-pow, pow-le-pow_left, pow-le-pow_right, cases_lt, LocalRule, IsRule}

-- at most 2^20 words of n + m - 1 letters, and less where they have fewer
pub power-most : {r : LocalRule} → IsRule r → (n j k : ℕ) → r.states ^ n ≤ 65536 → k ≡ r.states → j ≤ n + (r.width - 1)
    → (0 < k ^ j) × (k ^ j ≤ 1048576)
power-most {r} rule n j k few e l =
    let some : 0 < k = omega (arith, rule.shape.least_states) in
    let grows : k ^ j ≤ k ^ (n + (r.width - 1)) = pow-le-pow_right some l in
    let same : k ^ (n + (r.width - 1)) ≡ r.states ^ n * r.states ^ (r.width - 1) = ap (λ i. i ^ (n + (r.width - 1))) e ∙ pow-add r.states n (r.width - 1) in
    let most : r.states ^ n * r.states ^ (r.width - 1) ≤ 65536 * 16 = mul-le-mul few rule.shape.most_nodes in
    (one-le-pow j k some, omega arith)

-- n is at most 16
pub length-most : {r : LocalRule} → IsRule r → (n : ℕ) → r.states ^ n ≤ 65536 → n ≤ 16
length-most {r} rule n few =
    ⊎_elim (λ l. omega arith)
    (λ l.
    let twos : 2 ^ n ≤ r.states ^ n = pow-le-pow_left rule.shape.least_states n in
    let more : 2 ^ 17 ≤ 2 ^ n = pow-le-pow_right (omega arith) {i = 17} {j = n} (omega arith) in
    absurd (omega arith))
    (cases_lt n 17)

-- the words of n letters fall into groups of as many as there are words of fewer letters
pub power-divides : (k n j : ℕ) → j ≤ n → k ^ n % k ^ j ≡ 0
power-divides k n j l =
    let whole : n - j + j ≡ n = omega arith in
    ap (λ i. k ^ i % k ^ j) (sym whole) ∙ ap (λ i. i % k ^ j) (pow-add k (n - j) j) ∙ mul-mod_left (k ^ (n - j)) (k ^ j)
