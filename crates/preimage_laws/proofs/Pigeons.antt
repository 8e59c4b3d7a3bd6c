-- The pigeonhole principle for marks that are only known to be there.
use Rattle.std.proofs.Common.{ℕ, suc, ◌<◌, ◌≤◌, subst, sym, arith}
use Rattle.word_image.proofs.Common.{chosen_below, twice_below}

-- of n + 1 numbers, each of which has a mark below n, two have the same mark
pub twice_marked : (n : ℕ) (Q : ℕ → ℕ → Type 0) → ((i : ℕ) → i ≤ n → (c : ℕ) × (c < n) × Q i c)
    → (i : ℕ) × (j : ℕ) × (c : ℕ) × (i < j) × (j ≤ n) × Q i c × Q j c
twice_marked n Q has =
    let (f, marks) = chosen_below ℕ (λ i c. (c < n) × Q i c) (suc n) 0 (λ i l. let h = has i (omega arith) in (h.0, (h.1, h.2))) in
    let (i, j, order, most, same) = twice_below n f (λ i l. (marks i (omega arith)).0) in
    (i, j, f i, order, most, (marks i (omega arith)).1, subst (Q j) (sym same) (marks j (omega arith)).1)
