-- The edges of the de Bruijn graph of a rule, as sets of nodes. Edges can be followed in two directions: the side
-- `Right` follows them forward, and the side `Left` follows them backward. A set of nodes is a number: bit v says
-- whether node v is in the set.
use Rattle.std.specs.Prelude.{◌≡◌, ◌<◌, ◌≤◌, ℕ, List, [], slice_index, slice_index_or, IsBitSet}
use Rattle.word_image.specs.LocalRules.{LocalRule, node_count, most_states, most_nodes}
use Rattle.word_image.specs.Graphs.{IsNodeSet}
use Rattle.word_image.specs.Ends.{label_at, end_at}
use Rattle.word_image.specs.declared.side.Side.{Side}
use Rattle.word_image.specs.declared.side.Side.TheVariants.{Right}

-- an edge with this label leads from node u to node v, if edges are followed in the direction of the side
abbrev pub IsEdge : Side → LocalRule → ℕ → ℕ → ℕ → Type 0
IsEdge side r label u v = (a : ℕ) × (a < r.states) × ((label_at side r u a ≡ label) × (end_at side r u a ≡ v))

-- the number is the set of the nodes to which edges with this label lead from node u
abbrev pub IsEnds : Side → LocalRule → ℕ → ℕ → ℕ → Type 0
IsEnds side r u label = IsNodeSet r (IsEdge side r label u)

-- a step on the letter a leads from `set` to the set of all nodes to which edges with label a lead from the nodes of `set`
abbrev pub IsStep : LocalRule → ℕ → ℕ → ℕ → Type 0
IsStep r set a = IsNodeSet r (λ v. (u : ℕ) × (u < node_count r) × (IsBitSet set u × IsEdge Right r a u v))

-- the set that `rows` has for a label and a node
abbrev pub ends_at : List (List ℕ) → ℕ → ℕ → ℕ
ends_at rows label u = slice_index (slice_index_or rows label []) u

-- `rows` has for each label and each node a set: the nodes to which edges with this label lead from the node. The set is empty if the rule doesn't have this label or this node
pub record AreEdgeRows (side : Side) (r : LocalRule) (rows : List (List ℕ)) : Type 0 where
  pub ends : (label u : ℕ) → label < most_states → u < node_count r → IsEnds side r u label (ends_at rows label u)
  pub past : (label u : ℕ) → label < most_states → u < most_nodes → node_count r ≤ u → ends_at rows label u ≡ 0
