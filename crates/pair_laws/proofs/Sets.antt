-- Sets of nodes as bits: what two have both, and what one has more than another.
use Rattle.std.proofs.Common.{◌≡◌, ℕ, ◌+◌, ◌-◌, ◌*◌, ◌/◌, ◌%◌, ◌^◌, ◌<◌, ◌↔◌, IsBitSet, bit_and, sym, subst, arith, w16, pow-add}
use Rattle.std.proofs.lemmas.Nat.Bits.{bit_at_and, bit_at_not, bit_at_above}
use Rattle.word_image.proofs.Common.{one_shl, and_le_r, div-div-eq-div-mul, IsSetOf, bit_at-IsBitSet, IsBitSet-some, IsBitSet-zero, IsBitSet-pow}

-- a set of n nodes has only nodes below n
pub IsBitSet-below : (n a i : ℕ) → a < 2 ^ n → IsBitSet a i → i < n
IsBitSet-below n a i small some = grind (arith, bit_at_above, bit_at-IsBitSet)

-- what two sets have both
pub IsBitSet-and : (a b i : ℕ) → IsBitSet (bit_and a b) i ↔ (IsBitSet a i × IsBitSet b i)
IsBitSet-and a b i = grind (arith, bit_at_and, bit_at-IsBitSet)

-- what two sets have both is the set of the numbers of which both hold
pub IsSetOf-both : {n : ℕ} {P Q : ℕ → Type 0} {a b : ℕ} → IsSetOf n P a → IsSetOf n Q b → IsSetOf n (λ u. P u × Q u) (bit_and a b)
IsSetOf-both {a = a} {b = b} h g = grind (arith, and_le_r, IsBitSet-and)

-- two sets that meet have a node both
pub IsBitSet-meet : (n a b : ℕ) → bit_and a b < 2 ^ n → ¬ (bit_and a b ≡ 0) → (i : ℕ) × IsBitSet a i × IsBitSet b i
IsBitSet-meet n a b small some =
    let found = IsBitSet-some n (bit_and a b) small some in
    grind (arith, IsBitSet-and)

-- two sets that don't meet have no node both
pub IsBitSet-apart : (a b i : ℕ) → bit_and a b ≡ 0 → IsBitSet a i → ¬ IsBitSet b i
IsBitSet-apart a b i none first second = IsBitSet-zero i (subst (λ c. IsBitSet c i) none ((IsBitSet-and a b i).1 (first, second)))

-- what one set has and another doesn't
pub IsBitSet-minus : (a b i : ℕ) → b < 2 ^ 16 → i < 16 → IsBitSet (bit_and a (65535 - b)) i ↔ (IsBitSet a i × ¬ IsBitSet b i)
IsBitSet-minus a b i small inside =
    let other = bit_at_not w16 b i small inside in
    let both = IsBitSet-and a (65535 - b) i in grind (arith, bit_at-IsBitSet)

-- one node as a set, as a shift makes it
pub IsBitSet-shl : (k i : ℕ) → k < 16 → IsBitSet (1 * 2 ^ k % 2 ^ 16) i ↔ (i ≡ k)
IsBitSet-shl k i small = subst (λ a. IsBitSet a i ↔ (i ≡ k)) (sym (one_shl k 16 small)) (IsBitSet-pow k i)

-- a set moved down by some places
pub IsBitSet-shr : (a k i : ℕ) → IsBitSet (a / 2 ^ k) i ↔ IsBitSet a (k + i)
IsBitSet-shr a k i = grind (arith, div-div-eq-div-mul, pow-add, bit_at-IsBitSet)
