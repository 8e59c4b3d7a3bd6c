-- Dictionary order of words of one length is the order of their values.
use Rattle.std.proofs.Common.{◌≡◌, ℕ, ◌+◌, ◌*◌, ◌<◌, List, [], ◌∷◌, length, refl, ap, ◌∙◌, arith, mul_comm, nat_cmp, Ordering, Equal}
use Rattle.std.proofs.lemmas.Nat.{mul-add-lt}
use Rattle.std.proofs.lemmas.List.Elements.{All-tail}
use Rattle.std.specs.Ordering.{ordering_then}
use Rattle.std.proofs.lemmas.Cmp.{by_ranked}
use Rattle.std.specs.Cmp.Lexicographic.{slice_cmp}
use Rattle.word_image.specs.LocalRules.{IsWord, value}
use Rattle.word_image.proofs.laws.Values.{value-below}
use Rattle.word_image.proofs.laws.Comparisons.{key_number}

-- of two numbers in base n the one with the lesser first digit is less
pub digits-lt : (a b u v n : ℕ) → u < n → a < b → a * n + u < b * n + v
digits-lt a b u v n h l = grind (arith, mul-add-lt, mul_comm)

-- two numbers with one first digit are compared by the last one
pub nat_cmp-add : (m u v : ℕ) → nat_cmp u v ≡ nat_cmp (m + u) (m + v)
nat_cmp-add m u v = grind (arith, by_ranked)

-- numbers of two digits in base n are compared by the first digit, then by the second
pub nat_cmp-digits : (a b u v n : ℕ) → u < n → v < n → ordering_then (nat_cmp a b) (nat_cmp u v) ≡ nat_cmp (a * n + u) (b * n + v)
nat_cmp-digits a b u v n h g =
    key_number a b (a * n + u) (b * n + v) (nat_cmp u v) (digits-lt a b u v n h) (λ e. nat_cmp-add (a * n) u v ∙ ap (λ c. nat_cmp (a * n + u) (c * n + v)) e) (digits-lt b a v u n g)

-- two orderings are both equal if both together are
pub then_equal : (a b : Ordering) → ordering_then a b ≡ Equal → (a ≡ Equal) × (b ≡ Equal)
then_equal Equal b e = (refl, e)
then_equal _ b e = absurd (cc)

-- of words of one length the first in dictionary order has the least value
pub slice_cmp-value : (k : ℕ) (x y : List ℕ) → IsWord k x → IsWord k y → length x ≡ length y → slice_cmp nat_cmp x y ≡ nat_cmp (value k x) (value k y)
slice_cmp-value k [] [] h g e = refl
slice_cmp-value k [] (b ∷ y) h g e = absurd (omega arith)
slice_cmp-value k (a ∷ x) [] h g e = absurd (omega arith)
slice_cmp-value k (a ∷ x) (b ∷ y) h g e =
    let first = All-tail (λ c. c < k) a x h in
    let second = All-tail (λ c. c < k) b y g in
    grind (arith, value-below, nat_cmp-digits, slice_cmp-value k x y first second (omega arith))
