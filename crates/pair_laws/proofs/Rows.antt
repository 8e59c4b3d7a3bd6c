-- Rows of bits: with one row written, with a set more in one row, with one bit more or less, and rows of none.
use Rattle.std.proofs.Common.{◌≡◌, ◌≢◌, ℕ, ◌-◌, ◌*◌, ◌/◌, ◌%◌, ◌^◌, ◌<◌, ◌↔◌, ◌⊎◌, List, length, replicate, IsBitSet, IsTrue, bit_and, bit_or, slice_index, slice_set, subst, ◌==◌, get_or-set_other, arith}
use Rattle.word_image.proofs.Common.{get_or-set_at, IsBitSet-or, IsBitSet-zero, HasBit, bit_set_by_shift, slice_index-zeros}
use Rattle.pair_laws.proofs.Sets.{IsBitSet-minus, IsBitSet-shl}

-- one row is written, and the others stay
pub row_cases : (rows : List ℕ) (i row j : ℕ) → i < length rows
    → ((j ≡ i) × (slice_index (slice_set rows i row) j ≡ row)) ⊎ ((j ≢ i) × (slice_index (slice_set rows i row) j ≡ slice_index rows j))
row_cases rows i row j inside = grind (arith, get_or-set_at, get_or-set_other)

-- rows with a set more in one row
pub HasBit-or : (rows : List ℕ) (i set : ℕ) → i < length rows → (j w : ℕ)
    → HasBit (slice_set rows i (bit_or (slice_index rows i) set)) j w ↔ (((j ≡ i) × IsBitSet set w) ⊎ HasBit rows j w)
HasBit-or rows i set inside j w = grind (arith, row_cases, IsBitSet-or)

-- rows with one bit more in one row, as a shift makes it
pub HasBit-more : (rows : List ℕ) (i v : ℕ) → i < length rows → v < 16 → (j w : ℕ)
    → HasBit (slice_set rows i (bit_or (slice_index rows i) (1 * 2 ^ v % 2 ^ 16))) j w ↔ (((j ≡ i) × (w ≡ v)) ⊎ HasBit rows j w)
HasBit-more rows i v inside small j w = grind (arith, HasBit-or, IsBitSet-shl)

-- rows with one bit less
pub HasBit-less : (rows : List ℕ) (i v : ℕ) → i < length rows → v < 16 → (j w : ℕ) → w < 16
    → HasBit (slice_set rows i (bit_and (slice_index rows i) (65535 - 1 * 2 ^ v % 2 ^ 16))) j w ↔ (HasBit rows j w × ¬ ((j ≡ i) × (w ≡ v)))
HasBit-less rows i v inside small j w within = grind (arith, row_cases, IsBitSet-shl, IsBitSet-minus)

-- the test of a bit
pub IsBitSet-test : (row v : ℕ) → IsTrue (bit_and (row / 2 ^ v) 1 == 1) ↔ IsBitSet row v
IsBitSet-test row v = grind (arith, bit_set_by_shift)

-- rows of zeros have no bit
pub HasBit-none : (n i v : ℕ) → ¬ HasBit (replicate n 0) i v
HasBit-none n i v some = IsBitSet-zero v (subst (λ x. IsBitSet x v) (slice_index-zeros n i) some)
