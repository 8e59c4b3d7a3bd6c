-- Marks on sets of nodes. A set is a number: bit u says whether node u is in the set. Rows are a list of numbers of 64
-- bits with one bit for each set, its mark: the set x is marked if bit x % 64 of row x / 64 is 1. The program marks the
-- sets of a list. Then, for each node u in turn, it marks each set that contains u and is marked without u. At the end,
-- the sets that contain a set of the list are marked.
use Rattle.std.specs.Prelude.{◌≡◌, ◌≢◌, ℕ, ◌-◌, ◌*◌, ◌/◌, ◌%◌, ◌^◌, ◌<◌, ◌≤◌, ◌↔◌, ◌⊎◌, List, length, slice_index, Contains, IsBitSet}
use Rattle.std.specs.Int.{bit_at}
use Rattle.word_image.specs.LocalRules.{most_nodes}
use Rattle.word_image.specs.Graphs.{HasBit}

-- the rows mark the set x: bit x % 64 of row x / 64 is 1
abbrev pub IsSetMarked : List ℕ → ℕ → Type 0
IsSetMarked rows x = HasBit rows (x / 64) (x % 64)

-- every node of the set s is in the set x
abbrev pub IsPart : ℕ → ℕ → Type 0
IsPart s x = (i : ℕ) → bit_at s i ≤ bit_at x i

-- the set x contains node u, and the rows mark the set x without u
abbrev pub HoldsWithout : List ℕ → ℕ → ℕ → Type 0
HoldsWithout rows u x = IsBitSet x u × IsSetMarked rows (x - 2 ^ u)

-- marks were spread along node u to the sets with numbers below n: a set is marked in `new` if it is marked in `old`, or if its number is below n, it contains u and it is marked without u in `others`
pub record IsSpreadTo (u n : ℕ) (others old new : List ℕ) : Type 0 where
  pub marked : (x : ℕ) → IsSetMarked new x ↔ (IsSetMarked old x ⊎ ((x < n) × HoldsWithout others u x))

-- a set of nodes below n is marked if and only if it is in the list
abbrev pub AreListed : List ℕ → ℕ → List ℕ → Type 0
AreListed sets n rows = (x : ℕ) → x < 2 ^ n → (IsSetMarked rows x ↔ Contains sets x)

-- the set x contains the set s and differs from it only in nodes below u
abbrev pub ContainsBy : ℕ → ℕ → ℕ → Type 0
ContainsBy u s x = (i : ℕ) → (bit_at s i ≤ bit_at x i) × (u ≤ i → bit_at s i ≡ bit_at x i)

-- a set of nodes below n is marked if and only if it contains some set of the list and differs from it only in nodes below u
abbrev pub AreMarksTo : List ℕ → ℕ → ℕ → List ℕ → Type 0
AreMarksTo sets n u rows = (x : ℕ) → x < 2 ^ n → (IsSetMarked rows x ↔ ((i : ℕ) × (i < length sets) × ContainsBy u (slice_index sets i) x))

-- a set of nodes below n is marked if and only if it contains some set of the list: it has no nodes from n on in which the two could differ
abbrev pub AreAbove : List ℕ → ℕ → List ℕ → Type 0
AreAbove sets n rows = AreMarksTo sets n n rows

-- a set of nodes below n is marked if and only if it contains some set of the list other than itself
abbrev pub AreBeyond : List ℕ → ℕ → List ℕ → Type 0
AreBeyond sets n rows = (x : ℕ) → x < 2 ^ n → (IsSetMarked rows x ↔ ((i : ℕ) × (i < length sets) × (slice_index sets i ≢ x) × IsPart (slice_index sets i) x))

-- the set contains some node u below n, and the rows mark the set without u
abbrev pub HoldsSmaller : List ℕ → ℕ → ℕ → Type 0
HoldsSmaller rows n set = (u : ℕ) × (u < n) × HoldsWithout rows u set

-- a set of nodes below `nodes` is marked if and only if it contains some set of the list other than itself
pub record AreCovers (sets rows : List ℕ) : Type 0 where
  pub nodes : ℕ
  pub few : nodes ≤ most_nodes
  pub room : 2 ^ nodes ≤ 64 * length rows
  pub within : (i : ℕ) → i < length sets → slice_index sets i < 2 ^ nodes
  pub marked : AreBeyond sets nodes rows
