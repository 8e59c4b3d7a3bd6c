-- Sets of numbers as unions, one part at a time.
use Rattle.std.proofs.Common.{◌≡◌, ℕ, ◌+◌, ◌^◌, ◌<◌, ◌↔◌, IsBitSet, bit_or, sym, subst, arith, pow_pos}
use Rattle.std.proofs.Math.Pow.{pow-lt}
use Rattle.std.proofs.lemmas.Nat.{or_lt}
use Rattle.word_image.specs.Graphs.{IsSetOf}
use Rattle.word_image.proofs.laws.Bits.{IsBitSet-or, IsBitSet-pow, IsBitSet-zero}

-- a set of some numbers is the set of the same numbers described in other words
pub IsSetOf-same : {n : ℕ} {P Q : ℕ → Type 0} {set : ℕ} → ((i : ℕ) → i < n → (P i ↔ Q i)) → IsSetOf n P set → IsSetOf n Q set
IsSetOf-same same h = record { within = h.within; nodes = λ i l. ((λ some. (same i l).0 ((h.nodes i l).0 some)), (λ q. (h.nodes i l).1 ((same i l).1 q))) }

-- the set of those below a number that one of the first n parts has
abbrev pub IsUnion : ℕ → (ℕ → ℕ → Type 0) → ℕ → ℕ → Type 0
IsUnion count Has n = IsSetOf count (λ v. (i : ℕ) × (i < n) × Has i v)

-- the union of no parts is the empty set
pub IsUnion-none : (count : ℕ) (Has : ℕ → ℕ → Type 0) → IsUnion count Has 0 0
IsUnion-none count Has = record { within = pow_pos count; nodes = λ v _. ((λ some. absurd (IsBitSet-zero v some)), (λ (i, less, _). absurd (omega (arith, less)))) }

-- the union stays as it is where the next part is empty
pub IsUnion-skip : {count : ℕ} {Has : ℕ → ℕ → Type 0} {n set : ℕ} → IsUnion count Has n set → ((v : ℕ) → ¬ Has n v) → IsUnion count Has (n + 1) set
IsUnion-skip {Has = Has} {n = n} h none = grind arith

-- the next part is added to the union
pub IsUnion-take : {count : ℕ} {Has : ℕ → ℕ → Type 0} {n set part : ℕ} → IsUnion count Has n set → part < 2 ^ count
    → ((v : ℕ) → v < count → (IsBitSet part v ↔ Has n v))
    → IsUnion count Has (n + 1) (bit_or set part)
IsUnion-take h small same = grind (arith, or_lt, IsBitSet-or)

-- the set of those of the first i numbers of which something holds
abbrev pub IsSetTo : ℕ → (ℕ → Type 0) → ℕ → ℕ → Type 0
IsSetTo count Holds = IsUnion count (λ i v. (v ≡ i) × Holds i)

-- the set of numbers of which something holds has one number more, of which it holds
pub IsSetTo-take : {count i set one : ℕ} (Holds : ℕ → Type 0) → IsSetTo count Holds i set → i < count → one ≡ 2 ^ i → Holds i
    → IsSetTo count Holds (i + 1) (bit_or set one)
IsSetTo-take {count} {i} {set} Holds h inside alone holds =
    subst (λ x. IsSetTo count Holds (i + 1) (bit_or set x)) (sym alone)
    (IsUnion-take h (pow-lt inside) (λ v _. ((λ some. ((IsBitSet-pow i v).0 some, holds)), (λ here. (IsBitSet-pow i v).1 here.0))))

-- the set of numbers of which something holds stays as it is with one number more, of which it doesn't hold
pub IsSetTo-skip : {count i set : ℕ} (Holds : ℕ → Type 0) → IsSetTo count Holds i set → ¬ Holds i → IsSetTo count Holds (i + 1) set
IsSetTo-skip Holds h none = IsUnion-skip h (λ v here. none here.1)

-- the set of all numbers below a bound of which something holds
pub IsSetTo-all : {count n set : ℕ} (Holds : ℕ → Type 0) → n ≡ count → IsSetTo count Holds n set → IsSetOf count Holds set
IsSetTo-all Holds all h = grind arith
