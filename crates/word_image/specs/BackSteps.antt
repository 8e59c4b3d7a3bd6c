-- Backward steps from one pair of nodes to another in the de Bruijn graph. A node is a word of m - 1 letters, and a
-- step follows two edges with equal labels.
use Rattle.std.specs.Prelude.{◌≡◌, ℕ, ◌<◌, Some}
use Rattle.word_image.specs.LocalRules.{LocalRule}
use Rattle.word_image.specs.Graphs.{node_letter, first_of, second_of, pair_count, follow}

-- the letters a and b lead from pair q back to pair p: edges with equal labels lead from the nodes of p to the nodes of q, and a and b are the first letters of the nodes of p
pub record LeadsBack (r : LocalRule) (q a b p : ℕ) : Type 0 where
  pub in_pairs : p < pair_count r
  pub first : node_letter r (first_of r p) 0 ≡ a
  pub second : node_letter r (second_of r p) 0 ≡ b
  pub leads : (c : ℕ) × (d : ℕ) × (c < r.states) × (d < r.states) × (follow r p c d ≡ Some q)
