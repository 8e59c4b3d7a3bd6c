-- Lists of pairs of nodes that prove a rule surjective. A first pair on the right consists of two nodes that two
-- different letters reach from the same node, along edges with equal labels. A step leads from a pair of nodes to
-- another pair along two edges with equal labels.
use Rattle.std.specs.Prelude.{◌≡◌, ◌≢◌, ℕ, ◌<◌, List, Contains, Some}
use Rattle.word_image.specs.LocalRules.{LocalRule}
use Rattle.word_image.specs.Graphs.{pair_count, follow, first_of, second_of}
use Rattle.word_image.specs.FirstPairs.{IsFirstOfRight}

-- the list proves that the rule is surjective: it has all first pairs on the right and each pair to which a step leads from a pair of the list. No pair of the list has two equal nodes
pub record IsPairList (r : LocalRule) (pairs : List ℕ) : Type 0 where
  pub below : (p : ℕ) → Contains pairs p → p < pair_count r
  pub firsts : (p : ℕ) → IsFirstOfRight r p → Contains pairs p
  pub closed : (p a b q : ℕ) → Contains pairs p → a < r.states → b < r.states → follow r p a b ≡ Some q → Contains pairs q
  pub off_diagonal : (p : ℕ) → Contains pairs p → first_of r p ≢ second_of r p
