-- Sets of marked pairs as rows of bits. A marked pair is a pair of nodes with a mark, which is 1 if the letters that
-- led to the pair differed somewhere, and 0 if not. Row u has the nodes v for which the pair (u, v) with mark 0 is in
-- the set. Row 16 + u has the nodes v for which the pair (u, v) with mark 1 is in the set.
use Rattle.std.specs.Prelude.{◌≡◌, ℕ, ◌+◌, ◌*◌, ◌/◌, ◌%◌, ◌<◌, ◌↔◌, ◌⊎◌, List, slice_index, IsBitSet}
use Rattle.word_image.specs.LocalRules.{LocalRule, node_count, most_nodes}
use Rattle.least_walk.specs.declared.marks.PairParts.{PairParts}
use Rattle.word_image.specs.Graphs.{first_of, second_of, pair_count}

-- the number of the pair of nodes in a marked pair, without the mark
abbrev pub pair_part : LocalRule → ℕ → ℕ
pair_part r t = t % pair_count r

-- the number of the row of a marked pair whose first node is u: u if the mark is 0, and 16 + u if the mark is 1
abbrev pub row_of : LocalRule → ℕ → ℕ
row_of r t = most_nodes * (t / pair_count r) + first_of r (pair_part r t)

-- the marked pair t is in the set that the rows give
abbrev pub HasPair : LocalRule → List ℕ → ℕ → Type 0
HasPair r rows t = IsBitSet (slice_index rows (row_of r t)) (second_of r (pair_part r t))

-- the new rows have the marked pairs of the old rows and the marked pair t, and no others
abbrev pub IsAdded : LocalRule → List ℕ → ℕ → List ℕ → Type 0
IsAdded r rows t after = (s : ℕ) → s < 2 * pair_count r → (HasPair r after s ↔ ((s ≡ t) ⊎ HasPair r rows s))

-- `parts` has the mark, the first node and the second node of the marked pair t
pub record ArePartsOf (r : LocalRule) (parts : PairParts) (t : ℕ) : Type 0 where
  pub mark : parts.mark ≡ t / pair_count r
  pub first : parts.first ≡ first_of r (pair_part r t)
  pub second : parts.second ≡ second_of r (pair_part r t)

-- `at` is a marked pair of the rule, with its mark and its nodes; its row and its bit are inside the rows
pub record IsMarkedPair (r : LocalRule) (at : PairParts) : Type 0 where
  pub parts : ArePartsOf r at at.pair
  pub below : at.pair < 2 * pair_count r
  pub first : at.first < node_count r
  pub second : at.second < node_count r
  pub row : most_nodes * at.mark + at.first < 2 * most_nodes
  pub place : at.second < most_nodes
