use Rattle.std.proofs.Common.{◌≡◌, ℕ, ◌<◌, length, get_or, None}
use Rattle.pair_rank.specs.Sides.{IsRankOf}
use Rattle.pair_rank.proofs.ranks.Ranks.row.Given as goal

-- the ranks of the pairs so far
abbrev pub invariant-loop-pair : goal.invariant-loop-pair
invariant-loop-pair l = (length l.row.items ≡ l.pair) × ((p : ℕ) → p < l.pair → IsRankOf l.side l.self p (get_or l.row.items p None))
