-- A search for the reached pairs of nodes, to which zero or more steps lead from the first pairs on the right. A first
-- pair consists of two nodes that two different letters reach from the same node, along edges with equal labels. A step
-- from pair to pair follows two edges with equal labels. A set of pairs is stored as rows: bit v of row u says whether
-- the pair (u, v) is in the set.
use Rattle.std.specs.Prelude.{◌≡◌, ◌≢◌, ℕ, ◌<◌, ◌≤◌, ◌⊎◌, ◌↔◌, List, length, slice_index, IsBitSet}
use Rattle.word_image.specs.LocalRules.{LocalRule, node_count, most_nodes}
use Rattle.word_image.specs.Graphs.{next, label, pair_of, HasBit, AreSets}
use Rattle.garden_laws.specs.ReachedPairs.{IsReached}

-- the edge from `node` on some letter other than a leads to v and has the same label as the edge from `node` on the letter a
pub record LeadsApart (r : LocalRule) (node a v : ℕ) : Type 0 where
  pub b : ℕ
  pub letter : b < r.states
  pub different : a ≢ b
  pub one_label : label r node a ≡ label r node b
  pub leads : next r node b ≡ v

-- an edge from some node of the set leads to v and has the same label as the edge from `node` on the letter a
pub record LeadsBeside (r : LocalRule) (node set a v : ℕ) : Type 0 where
  pub other : ℕ
  pub b : ℕ
  pub in_nodes : other < node_count r
  pub in_set : IsBitSet set other
  pub letter : b < r.states
  pub one_label : label r node a ≡ label r other b
  pub leads : next r other b ≡ v

-- there are 16 rows, and the row of each node is a set of nodes
pub record AreNodeRows (r : LocalRule) (rows : List ℕ) : Type 0 where
  pub long : length rows ≡ most_nodes
  pub within : AreSets r rows

-- `new` has the pairs of `old`, and each pair (u, v) for which one of the first n letters a leads from `node` to u and Has a v holds
pub record AreAdded (r : LocalRule) (node : ℕ) (Has : ℕ → ℕ → Type 0) (n : ℕ) (old new : List ℕ) : Type 0 where
  pub rows : AreNodeRows r new
  pub grown : (u : ℕ) → u < node_count r → slice_index old u ≤ slice_index new u
  pub pairs : (u v : ℕ) → u < node_count r → v < node_count r → (HasBit new u v ↔ (HasBit old u v ⊎ ((a : ℕ) × (a < n) × (next r node a ≡ u) × Has a v)))

-- all found pairs are reached and have two different nodes, all followed pairs are found, and each step from a followed pair leads to a found pair
pub record IsRowSearch (r : LocalRule) (found followed : List ℕ) : Type 0 where
  pub rows : AreNodeRows r found
  pub long : length followed ≡ most_nodes
  pub behind : (u : ℕ) → u < node_count r → slice_index followed u ≤ slice_index found u
  pub reached : (u v : ℕ) → u < node_count r → v < node_count r → HasBit found u v → IsReached r (pair_of r u v)
  pub apart : (u : ℕ) → u < node_count r → ¬ HasBit found u u
  pub steps : (u v a b : ℕ) → u < node_count r → v < node_count r → HasBit followed u v → a < r.states → b < r.states → label r u a ≡ label r v b → HasBit found (next r u a) (next r v b)
