-- A set of pairs of n nodes in two forms. As a list of truth values, it says at place u * n + v whether the pair (u, v)
-- is in the set. As rows of bits, bit v of row u says whether the pair (u, v) is in the set. A step from pair to pair
-- follows two edges with equal labels, forward on the right side and backward on the left side.
use Rattle.std.specs.Prelude.{◌≡◌, ◌==◌, ℕ, ◌*◌, ◌/◌, ◌%◌, ◌^◌, ◌<◌, ◌≤◌, List, Bool, false, map, length, Some, ◌↔◌, slice_index, slice_index_or, IsBitSet, IsTrue, count_by, nat_lt}
use Rattle.std.specs.Simd.Lanes.{mask_l, chunk}
use Rattle.std.specs.Int.{bit_at}
use Rattle.std.specs.List.{range_with_len}
use Rattle.word_image.specs.LocalRules.{LocalRule, most_nodes}
use Rattle.word_image.specs.Graphs.{follow_on, pair_count}
use Rattle.word_image.specs.declared.side.Side.{Side}
use Rattle.word_image.specs.Edges.{ends_at}
use Rattle.word_image.specs.Ends.{label_at, end_at}

-- whether the pair p is in the set
abbrev pub holds : List Bool → ℕ → Bool
holds set p = slice_index_or set p false

-- the truth values of a set that is given by rows of bits: for each pair (u, v) of n nodes, whether bit v of row u is 1
abbrev pub truths : ℕ → List ℕ → List Bool
truths n rows = map (λ p. bit_at (slice_index rows (p / n)) (p % n) == 1) (range_with_len 0 (n * n))

-- the number n of nodes, if `count` is the number n * n of their pairs
abbrev pub nodes_of : ℕ → ℕ
nodes_of count = count_by (λ i. nat_lt (i * i) count) (range_with_len 0 most_nodes)

-- the rows of bits of a set that is given by truth values, one for each pair of n nodes
abbrev pub rows_of : ℕ → List Bool → List ℕ
rows_of n set = map (λ u. mask_l (chunk (u * n) n set)) (range_with_len 0 most_nodes)

-- the rows are a set of pairs of n nodes: there are 16 rows, row u is a set of nodes below n if u is below n, and all other rows are 0
pub record AreRows (n : ℕ) (rows : List ℕ) : Type 0 where
  pub least : 1 ≤ n
  pub most : n ≤ most_nodes
  pub long : length rows ≡ most_nodes
  pub within : (u : ℕ) → u < n → slice_index rows u < 2 ^ n
  pub past : (u : ℕ) → n ≤ u → slice_index rows u ≡ 0

-- a step on this side with the first letter a leads from the pair p to a pair of the set
pub record LeadsIntoBy (side : Side) (r : LocalRule) (set : List Bool) (p a : ℕ) : Type 0 where
  pub second : ℕ
  pub letter : second < r.states
  pub pair : ℕ
  pub leads : follow_on side r p a second ≡ Some pair
  pub there : IsTrue (holds set pair)

-- some step leads on this side from the pair p to a pair of the set
abbrev pub LeadsInto : Side → LocalRule → List Bool → ℕ → Type 0
LeadsInto side r set p = (a : ℕ) × (a < r.states) × LeadsIntoBy side r set p a

-- `kept` has exactly the pairs of `set` from which some step on this side leads to a pair of `set`
pub record IsTrimmedSet (side : Side) (r : LocalRule) (set kept : List Bool) : Type 0 where
  pub count : length kept ≡ pair_count r
  pub pairs : (p : ℕ) → p < pair_count r → (IsTrue (holds kept p) ↔ (IsTrue (holds set p) × LeadsInto side r set p))

-- the edge from node u on letter a, and an edge with the same label from node v to node t, lead to two nodes whose pair is in the rows
pub record GoesOnBy (side : Side) (r : LocalRule) (ends : List (List ℕ)) (rows : List ℕ) (u v a t : ℕ) : Type 0 where
  pub node : t < most_nodes
  pub second : IsBitSet (ends_at ends (label_at side r u a) v) t
  pub pair : IsBitSet (slice_index rows (end_at side r u a)) t

-- edges with equal labels lead from the nodes u and v to two nodes whose pair is in the rows
abbrev pub GoesOn : Side → LocalRule → List (List ℕ) → List ℕ → ℕ → ℕ → Type 0
GoesOn side r ends rows u v = (a : ℕ) × (t : ℕ) × (a < r.states) × GoesOnBy side r ends rows u v a t

-- for each u below n, row u of `kept` has exactly the nodes v of row u of `rows` for which Goes u v holds; row n of `kept` and all later rows are 0
pub record AreNodesKept (Goes : ℕ → ℕ → Type 0) (rows : List ℕ) (n : ℕ) (kept : List ℕ) : Type 0 where
  pub long : length kept ≡ most_nodes
  pub done : (u v : ℕ) → u < n → v < most_nodes → (IsBitSet (slice_index kept u) v ↔ (IsBitSet (slice_index rows u) v × Goes u v))
  pub smaller : (u : ℕ) → slice_index kept u ≤ slice_index rows u
  pub past : (u : ℕ) → n ≤ u → slice_index kept u ≡ 0
