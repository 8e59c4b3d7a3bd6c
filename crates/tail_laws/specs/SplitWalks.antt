-- Normal right splits as walks. Such a split consists of two different configurations with the same image, each with
-- zeros to the left, then a middle, then a right period. It is given by two lists of pairs of letters: w has the
-- letters of the two middles, and v has the letters of the two right periods. For example, w = [(0, 1)] means the
-- middles 0 and 1. The lists are walks in the marked graph. A state of this graph is a pair of nodes with a mark, which
-- is 1 if the walk to the state has a pair of different letters, and 0 if not. State 0 is the node of zeros with itself
-- and the mark 0.
use Rattle.std.specs.Prelude.{◌≢◌, ℕ, ◌+◌, ◌%◌, ◌<◌, List, [], ◌∷◌, length, map}
use Rattle.std.specs.declared.cmp.Ordering.TheVariants.{Greater}
use Rattle.word_image.specs.LocalRules.{LocalRule}
use Rattle.word_image.specs.Graphs.{pair_count}
use Rattle.word_image.specs.MarkedPairs.{marked}
use Rattle.search_laws.specs.PairWalks.{PairWalk}
use Rattle.tail_config.specs.Tails.{TailConfig}
use Rattle.tail_config.specs.Splits.{IsNormalRightSplit, splits_cmp}

-- the state that has the pair of nodes of the state t and the mark 1
abbrev pub with_mark : LocalRule → ℕ → ℕ
with_mark r t = t % pair_count r + pair_count r

-- w and v are a split whose right periods begin at the state t: w leads from state 0 to t, and v has at least one step and leads from t to the state with the nodes of t and the mark 1
pub record IsSplitAt (r : LocalRule) (t : ℕ) (w v : List (ℕ × ℕ)) : Type 0 where
  pub reach : PairWalk (marked r) r.states 0 w t
  pub some : 0 < length v
  pub round : PairWalk (marked r) r.states t v (with_mark r t)

-- the configuration with zeros to the left, one letter of each pair of w as its middle, and one letter of each pair of v as its right period; `side` picks the first or the second letter
abbrev pub tail_of : (ℕ × ℕ → ℕ) → List (ℕ × ℕ) → List (ℕ × ℕ) → TailConfig
tail_of side w v = record { left = 0 ∷ []; middle = map side w; right = map side v }

-- the configuration of the first letters of w and v; `second_tail` below is the configuration of their second letters
abbrev pub first_tail : List (ℕ × ℕ) → List (ℕ × ℕ) → TailConfig
first_tail = tail_of (λ p. p.0)

abbrev pub second_tail : List (ℕ × ℕ) → List (ℕ × ℕ) → TailConfig
second_tail = tail_of (λ p. p.1)

-- the split of the walks w and v: the configuration of their first letters and the configuration of their second letters
abbrev pub split_of : List (ℕ × ℕ) → List (ℕ × ℕ) → TailConfig × TailConfig
split_of w v = (first_tail w v, second_tail w v)

-- no split has right periods that begin at the state t
abbrev pub IsNoSplitAt : LocalRule → ℕ → Type 0
IsNoSplitAt r t = (w v : List (ℕ × ℕ)) → ¬ IsSplitAt r t w v

-- no split has right periods that begin at a state below t
abbrev pub IsNoSplitBelow : LocalRule → ℕ → Type 0
IsNoSplitBelow r t = (s : ℕ) → s < t → IsNoSplitAt r s

-- w and v are the least split whose right periods begin at the state t
pub record IsLeastSplitAt (r : LocalRule) (t : ℕ) (w v : List (ℕ × ℕ)) : Type 0 where
  pub split : IsSplitAt r t w v
  pub least : (w' v' : List (ℕ × ℕ)) → IsSplitAt r t w' v' → splits_cmp (split_of w v) (split_of w' v') ≢ Greater

-- w and v are a normal right split, and no split whose right periods begin at a state below t is less
pub record IsLeastBelow (r : LocalRule) (t : ℕ) (w v : List (ℕ × ℕ)) : Type 0 where
  pub split : IsNormalRightSplit r (first_tail w v) (second_tail w v)
  pub least : (s : ℕ) (w' v' : List (ℕ × ℕ)) → s < t → IsSplitAt r s w' v' → splits_cmp (split_of w v) (split_of w' v') ≢ Greater
