-- The search for the least normal split. A normal split consists of two different configurations with the same image,
-- each with zeros to the left, then a middle, then a right period. It is stored as two walks of pairs of letters: the
-- first walk spells the two middles, and the second walk spells the two right periods. The number a * 16 + b stands for
-- the pair of letters (a, b). The walks lead from state to state, and a state is a pair of nodes with a mark. The best
-- walks are the walks of the least split that has been found so far.
use Rattle.std.specs.Prelude.{◌≡◌, ℕ, ◌+◌, ◌%◌, ◌<◌, ◌≤◌, ◌⊎◌, length, List, map, Option, Some, None}
use Rattle.std.specs.declared.cmp.Ordering.TheVariants.{Greater}
use Rattle.word_image.specs.LocalRules.{LocalRule, most_states}
use Rattle.word_image.specs.Graphs.{pair_count}
use Rattle.word_image.specs.MarkedPairs.{marked}
use Rattle.search_laws.specs.PairWalks.{IsLeastWalk, uncode}
use Rattle.tail_config.specs.Tails.{TailConfig}
use Rattle.tail_config.specs.Splits.{splits_cmp}
use Rattle.tail_laws.specs.SplitWalks.{IsNoSplitBelow, IsLeastSplitAt, IsLeastBelow, IsSplitAt, split_of}
use Rattle.closing_test.specs.declared.walks.Walks.{Walks}

-- the pairs of letters of the walk of the middles
abbrev pub middle_pairs : Walks → List (ℕ × ℕ)
middle_pairs w = map (uncode most_states) w.middle

-- the pairs of letters of the walk of the right periods
abbrev pub period_pairs : Walks → List (ℕ × ℕ)
period_pairs w = map (uncode most_states) w.period

-- the split of two walks: the configuration of their first letters and the configuration of their second letters
abbrev pub split_by : Walks → TailConfig × TailConfig
split_by w = split_of (middle_pairs w) (period_pairs w)

-- `split` is less than the split of the best walks, or there are no best walks
abbrev pub ComesBefore : TailConfig × TailConfig → Option Walks → Type 0
ComesBefore split None = Unit {0}
ComesBefore split (Some best) = splits_cmp (split_by best) split ≡ Greater

-- each split with a middle of at least n letters and a right period of more than `most` letters is greater than the best split: it has more letters, or as many letters and a longer middle
abbrev pub IsMostAfter : Walks → ℕ → ℕ → Type 0
IsMostAfter best n most = (w v : ℕ) → n ≤ w → most < v
    → (length best.middle + length best.period < w + v) ⊎ ((length best.middle + length best.period ≡ w + v) × (length best.middle < w))

-- no split whose right periods begin at the state t is less than the best split; if there is no best split, no split has right periods that begin at t
abbrev pub IsNoneBefore : LocalRule → ℕ → Option Walks → Type 0
IsNoneBefore r t best = (w v : List (ℕ × ℕ)) → IsSplitAt r t w v → ¬ ComesBefore (split_of w v) best

-- the steps are the least walk from the state t back to its pair of nodes, with the mark
abbrev pub IsPeriodAt : LocalRule → ℕ → List ℕ → Type 0
IsPeriodAt r t steps = IsLeastWalk (marked r) r.states t (t % pair_count r + pair_count r) (map (uncode most_states) steps)

-- the walks `found` are the least split whose right periods begin at the state t, and this split is less than the best split
pub record AreEarlier (r : LocalRule) (t : ℕ) (best : Option Walks) (found : Walks) : Type 0 where
  pub least : IsLeastSplitAt r t (middle_pairs found) (period_pairs found)
  pub before : ComesBefore (split_by found) best

-- `best` is a normal split, and no split whose right periods begin at a state below t is less; if `best` is None, there is no split whose right periods begin at a state below t
abbrev pub IsLeastSoFar : LocalRule → ℕ → Option Walks → Type 0
IsLeastSoFar r t None = IsNoSplitBelow r t
IsLeastSoFar r t (Some best) = IsLeastBelow r t (middle_pairs best) (period_pairs best)
