-- Rows of bits that mark sets, with one set more.
use Rattle.std.proofs.Common.{◌≡◌, ℕ, ◌*◌, ◌/◌, ◌%◌, ◌^◌, ◌<◌, ◌↔◌, ◌⊎◌, List, length, bit_or, slice_index, slice_set, arith}
use Rattle.pair_laws.proofs.Common.{HasBit-more}
use Rattle.cert_check.specs.Rows.{IsMarked}

-- marks with one set more
pub IsMarked-more : (rows : List ℕ) (t i v : ℕ) → i < length rows → i ≡ t / 16 → v ≡ t % 16 → (s : ℕ)
    → IsMarked (slice_set rows i (bit_or (slice_index rows i) (1 * 2 ^ v % 2 ^ 16))) s ↔ ((s ≡ t) ⊎ IsMarked rows s)
IsMarked-more rows t i v inside row bit s = grind (arith, HasBit-more)
