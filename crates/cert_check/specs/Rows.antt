-- Rows of bits that mark sets of nodes. A set of nodes is a number in which bit u stands for node u. Row i has a bit
-- for each of the sets 16 i, .., 16 i + 15.
use Rattle.std.specs.Prelude.{ℕ, ◌*◌, ◌/◌, ◌%◌, ◌^◌, ◌≤◌, ◌↔◌, List, slice_index, Contains, IsBitSet, bit_and}
use Rattle.std.specs.Int.{bit_not, w16}
use Rattle.cert_values.specs.declared.cert_version.CertVersion.{CertVersion}
use Rattle.cert_conditions.specs.Sets.{IsKept}

-- the set without this node, which is a number below 16
abbrev pub without : ℕ → ℕ → ℕ
without set node = bit_and set (bit_not w16 (1 * 2 ^ node % 2 ^ 16))

-- the rows mark the set s: the bit of s in its row is 1
abbrev pub IsMarked : List ℕ → ℕ → Type 0
IsMarked rows s = IsBitSet (slice_index rows (s / 16)) (s % 16)

-- the rows mark exactly the sets of the list
abbrev pub AreMarked : List ℕ → List ℕ → Type 0
AreMarked rows sets = (s : ℕ) → IsMarked rows s ↔ Contains sets s

-- the rows mark a set of nodes, that is, a number of at most `full`, exactly if it is listed (version 1) or contains a listed set (versions 2 and 3)
abbrev pub AreKept : CertVersion → ℕ → List ℕ → List ℕ → Type 0
AreKept version full sets rows = (s : ℕ) → s ≤ full → (IsMarked rows s ↔ IsKept version sets s)
