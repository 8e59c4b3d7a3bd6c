-- How many edges from each node have the label 0.
use Rattle.std.specs.Prelude.{◌≡◌, ℕ, ◌+◌, ◌*◌, ◌<◌, ◌≤◌, ◌==◌, List, slice_index}
use Rattle.word_image.specs.LocalRules.{most_nodes}
use Rattle.garden_laws.specs.ZeroPairs.{count_below}

-- entry v of the row is the number of edges with label 0 that begin at node v, for each v below n, and it is at most 16
pub record AreZeroEdges (k : ℕ) (table : List ℕ) (n : ℕ) (row : List ℕ) : Type 0 where
  pub counts : (v : ℕ) → v < n → slice_index row v ≡ count_below (λ a. slice_index table (v * k + a) == 0) k
  pub few : (v : ℕ) → v < n → slice_index row v ≤ most_nodes
