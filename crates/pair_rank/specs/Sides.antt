-- The rank of a pair of nodes on the right is the greatest length of two walks with equal labels that begin at its
-- nodes. The rank on the left is the greatest length of two walks that end at its nodes. The pair is endless if there
-- are walks of any length.
use Rattle.std.specs.Prelude.{◌≡◌, ℕ, ◌+◌, ◌-◌, ◌*◌, ◌/◌, ◌<◌, ◌↔◌, List, Bool, Option, None, IsTrue, MatchOption, length, slice_index_or}
use Rattle.word_image.specs.LocalRules.{LocalRule, node_count, most_nodes}
use Rattle.word_image.specs.Graphs.{pair_count, most_pairs}
use Rattle.word_image.specs.Ranks.{IsRank, IsEndless}
use Rattle.word_image.specs.declared.side.Side.{Side}
use Rattle.word_image.specs.Sides.{Together, PairGoes}
use Rattle.pair_graph.specs.PairSets.{holds}

-- `rank` is the rank of the pair p on this side, or None if the pair is endless
abbrev pub IsRankOf : Side → LocalRule → ℕ → Option ℕ → Type 0
IsRankOf side r p rank = MatchOption rank (IsEndless (PairGoes side r p)) (IsRank (PairGoes side r p))

-- the set has exactly the endless pairs
pub record AreEndless (side : Side) (r : LocalRule) (set : List Bool) : Type 0 where
  pub count : length set ≡ pair_count r
  pub pairs : (p : ℕ) → p < pair_count r → (IsTrue (holds set p) ↔ IsEndless (PairGoes side r p))

-- the greatest rank that two nodes can have, which is less than N * (N - 1) / 2 for N nodes
abbrev pub most_rank : ℕ
most_rank = (most_pairs - most_nodes) / 2 - 1

-- the entry for the nodes u and v in a table of ranks: the entry at place 16 * u + v
abbrev pub rank_at : List (Option ℕ) → ℕ → ℕ → Option ℕ
rank_at ranks u v = slice_index_or ranks (most_nodes * u + v) None

-- the table has the exact rank of each pair of nodes, or None if the pair is endless
abbrev pub AreRanks : Side → LocalRule → List (Option ℕ) → Type 0
AreRanks side r ranks =
    (u v : ℕ) → u < node_count r → v < node_count r → MatchOption (rank_at ranks u v) (IsEndless (Together side r u v)) (IsRank (Together side r u v))

-- the pair (u, v) is in `set` and no longer in `after`
pub record HasFallen (n : ℕ) (set after : List Bool) (u v : ℕ) : Type 0 where
  pub node : v < n
  pub before : IsTrue (holds set (u * n + v))
  pub no_more : ¬ IsTrue (holds after (u * n + v))
