-- A step on a label leads from a set of nodes to the set of all nodes that edges with this label reach from the set.
-- Two tables store the steps: one for the sets of the nodes 0 to 7, and one for the sets of the nodes 8 to 15. A set is
-- a number: bit u says whether node u is in the set.
use Rattle.std.specs.Prelude.{◌≡◌, ℕ, ◌-◌, ◌*◌, ◌/◌, ◌%◌, ◌^◌, ◌<◌, List, [], length, get_or, slice_index, min}
use Rattle.word_image.specs.LocalRules.{LocalRule, IsRule, node_count, most_states}
use Rattle.word_image.specs.Edges.{IsStep}

-- the table has a row for each x below 2 ^ count: row x has for each label the set to which a step on this label leads from the set x * 2 ^ first
pub record AreSteps (r : LocalRule) (first count : ℕ) (rows : List (List ℕ)) : Type 0 where
  pub long : length rows ≡ 2 ^ count
  pub wide : (x : ℕ) → x < 2 ^ count → length (get_or rows x []) ≡ most_states
  pub steps : (x a : ℕ) → x < 2 ^ count → a < r.states → IsStep r (x * 2 ^ first) a (slice_index (get_or rows x []) a)

-- the rows of the two tables: `low` is for the sets of the nodes 0 to 7, and `high` is for the sets of the nodes 8 to 15
pub record Rows : Type 0 where
  pub low : List (List ℕ)
  pub high : List (List ℕ)

-- both tables store the steps of the rule
pub record AreTables (r : LocalRule) (rows : Rows) : Type 0 where
  pub rule : IsRule r
  pub low : AreSteps r 0 (min 8 (node_count r)) rows.low
  pub high : AreSteps r 8 (node_count r - 8) rows.high

-- the low table has a row for the lower eight bits of the set, and the high table has a row for its upper eight bits
pub record HasRows (rows : Rows) (set : ℕ) : Type 0 where
  pub low : set % 256 < length rows.low
  pub high : set / 256 < length rows.high
