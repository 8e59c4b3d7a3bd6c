-- The de Bruijn graph of a rule of width m (Sutner 1991). A node is a word of m - 1 letters, and an edge is a window of
-- m letters; both are given by their values. An edge leads from its first m - 1 letters to its last m - 1 letters, and
-- its label is the letter that the rule gives for it. A pair of nodes also has a number. A step from pair to pair
-- follows two edges with equal labels.
use Rattle.std.specs.Prelude.{◌≡◌, ℕ, List, ◌+◌, ◌-◌, ◌*◌, ◌/◌, ◌%◌, ◌^◌, ◌<◌, Option, Some, None, ◌==◌, if◌then◌else◌, slice_index, ◌↔◌, IsBitSet}
use Rattle.word_image.specs.LocalRules.{LocalRule, node_count, most_nodes, word_of}
use Rattle.word_image.specs.Ends.{label_at, end_at}
use Rattle.word_image.specs.declared.side.Side.{Side}
use Rattle.word_image.specs.declared.side.Side.TheVariants.{Right, Left}

-- the node to which the edge from node u on letter a leads: the last m - 1 letters of the window of u and a
abbrev pub next : LocalRule → ℕ → ℕ → ℕ
next = end_at Right

-- the label of the edge from node u on letter a: the letter that the rule gives for the window of u and a
abbrev pub label : LocalRule → ℕ → ℕ → ℕ
label = label_at Right

-- `set` is the set of the numbers below n for which Holds is true: bit u says whether u is in the set
pub record IsSetOf (n : ℕ) (Holds : ℕ → Type 0) (set : ℕ) : Type 0 where
  pub within : set < 2 ^ n
  pub nodes : (u : ℕ) → u < n → (IsBitSet set u ↔ Holds u)

-- the number is the set of the nodes for which a property holds
abbrev pub IsNodeSet : LocalRule → (ℕ → Type 0) → ℕ → Type 0
IsNodeSet r = IsSetOf (node_count r)

-- the set in row u contains v: bit v of the row is 1
abbrev pub HasBit : List ℕ → ℕ → ℕ → Type 0
HasBit rows u v = IsBitSet (slice_index rows u) v

-- the row of each node is a set of nodes
abbrev pub AreSets : LocalRule → List ℕ → Type 0
AreSets r rows = (u : ℕ) → u < node_count r → slice_index rows u < 2 ^ node_count r

-- the set of all nodes
abbrev pub full_set : LocalRule → ℕ
full_set r = 2 ^ node_count r - 1

-- the letter at place i of node u
abbrev pub node_letter : LocalRule → ℕ → ℕ → ℕ
node_letter r u i = slice_index (word_of r.states (r.width - 1) u) i

-- the number of the pair of nodes u and v
abbrev pub pair_of : LocalRule → ℕ → ℕ → ℕ
pair_of r u v = u * node_count r + v

-- the first node of a pair
abbrev pub first_of : LocalRule → ℕ → ℕ
first_of r p = p / node_count r

-- the second node of a pair
abbrev pub second_of : LocalRule → ℕ → ℕ
second_of r p = p % node_count r

-- the pair to which the letters a and b lead from the nodes of pair p on this side, or None if the labels of the two edges differ
abbrev pub follow_on : Side → LocalRule → ℕ → ℕ → ℕ → Option ℕ
follow_on side r p a b =
    if label_at side r (first_of r p) a == label_at side r (second_of r p) b
    then Some (pair_of r (end_at side r (first_of r p) a) (end_at side r (second_of r p) b))
    else None

-- the pair to which the letters a and b lead from the nodes of pair p, or None if the labels of the two edges differ
abbrev pub follow : LocalRule → ℕ → ℕ → ℕ → Option ℕ
follow = follow_on Right

-- the number of pairs of nodes
abbrev pub pair_count : LocalRule → ℕ
pair_count r = node_count r * node_count r

-- the greatest number of pairs of nodes that an accepted rule has
abbrev pub most_pairs : ℕ
most_pairs = most_nodes * most_nodes

-- two edges with equal labels lead from the nodes of pair p to the nodes of pair q, on some letters a and b
pub record PairStep (r : LocalRule) (p q : ℕ) : Type 0 where
  pub a : ℕ
  pub b : ℕ
  pub in_pairs : p < pair_count r
  pub a_letter : a < r.states
  pub b_letter : b < r.states
  pub follows : follow r p a b ≡ Some q

-- a step on this side leads from pair p to pair q: forward on the right, and backward on the left
abbrev pub LeadsOn : Side → LocalRule → ℕ → ℕ → Type 0
LeadsOn Right r p q = PairStep r p q
LeadsOn Left r p q = PairStep r q p
