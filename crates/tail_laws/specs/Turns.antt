-- Turns are walks that give twins, which are two different rings of the same length with the same image. A marked pair
-- is a pair of nodes with a mark, which is 1 if the walk to the pair has a pair of different letters, and 0 if not. A
-- turn is a walk from a pair with mark 0 to the same pair with mark 1. Its first letters are one of the twins, and its
-- second letters are the other.
use Rattle.std.specs.Prelude.{ℕ, ◌+◌, List}
use Rattle.word_image.specs.LocalRules.{LocalRule}
use Rattle.word_image.specs.Graphs.{pair_count}
use Rattle.word_image.specs.MarkedPairs.{marked}
use Rattle.search_laws.specs.PairWalks.{PairWalk}

-- w is a turn at the pair p: it leads from p with mark 0 to p with mark 1
abbrev pub IsTurn : LocalRule → ℕ → List (ℕ × ℕ) → Type 0
IsTurn r p w = PairWalk (marked r) r.states p w (p + pair_count r)
