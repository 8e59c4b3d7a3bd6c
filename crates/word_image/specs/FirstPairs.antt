-- First pairs. Two walks with equal labels begin at the same node, and their first edges have different letters: the
-- nodes that they reach by these edges are a first pair on the right. A first pair on the left is the same for walks
-- that are followed backward from the same node.
use Rattle.std.specs.Prelude.{◌≡◌, ◌≢◌, ℕ, ◌-◌, ◌<◌, drop}
use Rattle.word_image.specs.LocalRules.{LocalRule, node_count, word_of}
use Rattle.word_image.specs.Graphs.{next, label, node_letter, pair_count, pair_of, first_of, second_of}
use Rattle.word_image.specs.declared.side.Side.{Side}
use Rattle.word_image.specs.declared.side.Side.TheVariants.{Right, Left}

-- p is a first pair on the right: from one node, edges with different letters a and b and equal labels lead to the two nodes of p
pub record IsFirstOfRight (r : LocalRule) (p : ℕ) : Type 0 where
  pub node : ℕ
  pub a : ℕ
  pub b : ℕ
  pub in_nodes : node < node_count r
  pub a_letter : a < r.states
  pub b_letter : b < r.states
  pub different : a ≢ b
  pub one_label : label r node a ≡ label r node b
  pub pair : p ≡ pair_of r (next r node a) (next r node b)

-- p is a first pair on the left: its nodes differ only in their first letter, and edges with equal labels lead from them on the same letter, so to the same node
pub record IsFirstOfLeft (r : LocalRule) (p : ℕ) : Type 0 where
  pub letter : ℕ
  pub in_pairs : p < pair_count r
  pub in_letters : letter < r.states
  pub different : node_letter r (first_of r p) 0 ≢ node_letter r (second_of r p) 0
  pub same_rest : drop 1 (word_of r.states (r.width - 1) (first_of r p)) ≡ drop 1 (word_of r.states (r.width - 1) (second_of r p))
  pub one_label : label r (first_of r p) letter ≡ label r (second_of r p) letter

-- the pair is a first pair on this side
abbrev pub IsFirstOf : Side → LocalRule → ℕ → Type 0
IsFirstOf Right = IsFirstOfRight
IsFirstOf Left = IsFirstOfLeft
