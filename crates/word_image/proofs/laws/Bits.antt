-- The bits of a number, as a set of the places where it has one.
use Rattle.std.proofs.Common.{◌≡◌, ℕ, ◌^◌, ◌<◌, ◌↔◌, ◌⊎◌, inl, inr, IsBitSet, bit_or, ◌/◌, arith, ⊎_elim, pow_pos}
use Rattle.std.proofs.lemmas.Bool.{cases_eq}
use Rattle.std.proofs.lemmas.Nat.{leading_top, div_below}
use Rattle.std.proofs.lemmas.Nat.Bits.{bit_at-zero, bit_at_or, bit_at-pow_same, bit_at-pow_other, and_pow, bit_at-lt}
use Rattle.std.specs.Int.{bit_at}

-- a bit that is set is 1
pub bit_at-IsBitSet : (n i : ℕ) → IsBitSet n i ↔ (bit_at n i ≡ 1)
bit_at-IsBitSet n i = grind (arith, and_pow)

-- a place is in a set or isn't
pub IsBitSet-decide : (n i : ℕ) → IsBitSet n i ⊎ ¬ IsBitSet n i
IsBitSet-decide n i = ⊎_elim (λ one. inl ((bit_at-IsBitSet n i).1 one)) (λ other. inr (λ some. other ((bit_at-IsBitSet n i).0 some))) (cases_eq (bit_at n i) 1)

-- a number that is not 0 has a bit
pub IsBitSet-some : (n a : ℕ) → a < 2 ^ n → ¬ (a ≡ 0) → (i : ℕ) × (i < n) × IsBitSet a i
IsBitSet-some n a h ne =
    let top = leading_top n a (omega arith) h in
    let most : a / 2 ^ top.0 < 2 = div_below a (2 ^ top.0) 2 (pow_pos top.0) (omega arith) in
    grind (arith, bit_at-IsBitSet)

-- 0 is the empty set
pub IsBitSet-zero : (i : ℕ) → ¬ IsBitSet 0 i
IsBitSet-zero i some = let one = (bit_at-IsBitSet 0 i).0 some in let zeroth = bit_at-zero i in omega arith

-- a power of two is the set of one place
pub IsBitSet-pow : (k i : ℕ) → IsBitSet (2 ^ k) i ↔ (i ≡ k)
IsBitSet-pow k i = grind (arith, bit_at-IsBitSet, bit_at-pow_other, bit_at-pow_same)

-- the union of two sets
pub IsBitSet-or : (a b i : ℕ) → IsBitSet (bit_or a b) i ↔ (IsBitSet a i ⊎ IsBitSet b i)
IsBitSet-or a b i = grind (arith, bit_at-IsBitSet, bit_at_or, bit_at-lt)
