-- Marks in rows of 64 bits: the nodes of a set by its row and its bit, and rows with one row written.
use Rattle.std.proofs.Common.{◌≡◌, ℕ, suc, ◌+◌, ◌-◌, ◌*◌, ◌/◌, ◌%◌, ◌^◌, ◌<◌, ◌≤◌, ◌↔◌, List, Bool, true, slice_index, IsBitSet, bit_and, zero, refl, sym, ap, ap₂, ◌∙◌, arith, ⊎_elim, ◌==◌, ◌&&◌, pow-add, pow_pos, eqb-true}
use Rattle.std.proofs.lemmas.Nat.Bits.{bit_at_cat_low, bit_at_cat_high}
use mathlib.Core.Logic.Iff.{symm as iff_sym, trans as iff_then}
use Rattle.word_image.proofs.Common.{bit_at, cases_lt, Decides-below_and, bit_at-IsBitSet, IsBitSet-zero, HasBit}
use Rattle.pair_laws.proofs.Common.{IsBitSet-below, IsBitSet-and}
use Rattle.image_subsets.specs.declared.rows.TheConstants.{WITH_LOW_NODE}
use Rattle.image_subsets.specs.Marks.{HoldsWithout}

-- of two equal bits both are set or none
same_bits : (a i b j : ℕ) → bit_at a i ≡ bit_at b j → IsBitSet a i ↔ IsBitSet b j
same_bits a i b j same = iff_then (bit_at-IsBitSet a i) (rw same (iff_sym (bit_at-IsBitSet b j)))

-- a bit of a number is at most that number
pub pow-le : (n u : ℕ) → IsBitSet n u → 2 ^ u ≤ n
pow-le n u some = ⊎_elim (λ less. absurd (let low = IsBitSet-below u n u less some in omega (arith, low))) (λ le. le) (cases_lt n (2 ^ u))

-- the bit of a set in its row says whether the set has a node below 6
IsBitSet-low : (i b u : ℕ) → u < 6 → IsBitSet (64 * i + b) u ↔ IsBitSet b u
IsBitSet-low i b u low = same_bits (64 * i + b) u b u (ap (λ x. bit_at x u) (omega arith) ∙ bit_at_cat_low i 6 b u low)

-- the row of a set says whether the set has a node from 6 on
IsBitSet-high : (i b v : ℕ) → b < 64 → IsBitSet (64 * i + b) (6 + v) ↔ IsBitSet i v
IsBitSet-high i b v inside =
    same_bits (64 * i + b) (6 + v) i v
    (ap (λ x. bit_at x (6 + v)) (omega arith) ∙ bit_at_cat_high i 6 b (6 + v) inside (omega arith) ∙ ap (bit_at i) (omega arith))

-- a test of each number below n
abbrev every : ℕ → (ℕ → Bool) → Bool
every zero f = true
every (suc n) f = f n && every n f

-- a test that each number below n passes is passed by any one of them
every-at : (n : ℕ) (f : ℕ → Bool) → every n f ≡ true → (i : ℕ) → i < n → f i ≡ true
every-at n f = (Decides-below_and f (λ i. f i ≡ true) (λ m. every m f) (λ i. (λ t. t, λ t. t)) refl (λ _. refl) n).0

-- the masks of the first six nodes
mask_bits : (u b : ℕ) → u < 6 → b < 64 → IsBitSet (slice_index WITH_LOW_NODE u) b ↔ IsBitSet b u
mask_bits u b low inside =
    let each = every-at 6 (λ v. every 64 (λ i. bit_at (slice_index WITH_LOW_NODE v) i == bit_at i v)) refl u low in
    same_bits (slice_index WITH_LOW_NODE u) b b u
    (eqb-true (bit_at (slice_index WITH_LOW_NODE u) b) (bit_at b u) (every-at 64 (λ i. bit_at (slice_index WITH_LOW_NODE u) i == bit_at i u) each b inside))

-- a row moved up by s bits has at place b the bit from place b - s
moved_bit : (row s b : ℕ) → s ≤ b → b < 64 → bit_at (row * 2 ^ s % 2 ^ 64) b ≡ bit_at row (b - s)
moved_bit row s b le inside =
    sym (bit_at_cat_low (row * 2 ^ s / 2 ^ 64) 64 (row * 2 ^ s % 2 ^ 64) b inside)
    ∙ ap (λ n. bit_at n b) (omega arith) ∙ bit_at_cat_high row s 0 b (pow_pos s) le

-- the sets of a row that have a node below 6 and are marked without it
pub with_low_node : (rows : List ℕ) (i b u s : ℕ) → b < 64 → u < 6 → s ≡ 2 ^ u
    → IsBitSet (bit_and (slice_index rows i * 2 ^ s % 2 ^ 64) (slice_index WITH_LOW_NODE u)) b ↔ HoldsWithout rows u (64 * i + b)
with_low_node rows i b u s inside low size =
    let x : ℕ = 64 * i + b in
    let row : ℕ = slice_index rows i * 2 ^ s % 2 ^ 64 in
    let node_of = IsBitSet-low i b u low in
    let kept : IsBitSet b u → IsBitSet row b ↔ HasBit rows ((x - 2 ^ u) / 64) ((x - 2 ^ u) % 64) = λ has.
    let less : s ≤ b = omega (arith, pow-le b u has, size) in
    same_bits row b (slice_index rows ((x - 2 ^ u) / 64)) ((x - 2 ^ u) % 64)
    (moved_bit (slice_index rows i) s b less inside
    ∙ ap₂ (λ j v. bit_at (slice_index rows j) v) (omega (arith, less, size, inside)) (omega (arith, less, size, inside))) in
    let parts = IsBitSet-and row (slice_index WITH_LOW_NODE u) b in
    let mask = mask_bits u b low inside in (
      (λ some. let (bit, in_mask) = parts.0 some in let has = mask.0 in_mask in (node_of.1 has, (kept has).0 bit)),
      (λ (some, without). let has = node_of.0 some in parts.1 ((kept has).1 without, mask.1 has)),
    )

-- the sets of a row that have a node from 6 on and are marked without it in another row
pub with_high_node : (rows : List ℕ) (i b v at : ℕ) → b < 64 → IsBitSet i v → at + 2 ^ v ≡ i
    → IsBitSet (slice_index rows at) b ↔ HoldsWithout rows (6 + v) (64 * i + b)
with_high_node rows i b v at inside some is = grind (arith, pow-add, IsBitSet-high)

-- a row of sets that lack a node from 6 on has no set with the node
pub with_no_node : (rows : List ℕ) (i b v : ℕ) → b < 64 → ¬ IsBitSet i v → IsBitSet 0 b ↔ HoldsWithout rows (6 + v) (64 * i + b)
with_no_node rows i b v inside none = (λ some. absurd (IsBitSet-zero b some), λ both. absurd (none ((IsBitSet-high i b v inside).0 both.0)))
