-- Letters below k, by their digits.
use Rattle.std.proofs.Common.{◌≡◌, ℕ, zero, suc, ◌<◌, List, [], ◌∷◌, length, map, get_or, Some, ap, arith}
use Rattle.word_image.proofs.Common.{All-head, All-tail, IsWord, hex_value}
use Rattle.tail_config.proofs.Common.{Spells}

-- a digit without a letter below k
pub not_letters : (k : ℕ) (text w : List ℕ) (i : ℕ) → i < length text → ((a : ℕ) → hex_value (get_or text i 0) ≡ Some a → ¬ (a < k)) → Spells text w
    → ¬ IsWord k w
not_letters k [] w i lt none spells word = absurd (omega arith)
not_letters k (b ∷ text) [] i lt none spells word = absurd (omega (arith, ap length spells))
not_letters k (b ∷ text) (a ∷ w) zero lt none spells word =
    let head : hex_value b ≡ Some a = cc in
    let below : a < k = All-head (λ a. a < k) a w word in
    none a head below
not_letters k (b ∷ text) (a ∷ w) (suc i) lt none spells word =
    let rest : map hex_value text ≡ map Some w = cc in
    not_letters k text w i (omega arith) none rest (All-tail (λ a. a < k) a w word)
