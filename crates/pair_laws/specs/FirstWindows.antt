-- Pairs of windows with equal labels that differ only in the letter at one end. On the right, two different windows
-- with the same first m - 1 letters and equal labels have a first pair: the nodes of their last m - 1 letters, if the
-- rule has width m. A first pair on the right is endless if walks of any length with equal labels begin at its two
-- nodes. The left side is the mirror image: the windows differ only in their first letter, and the walks end at the two
-- nodes.
use Rattle.std.specs.Prelude.{◌≡◌, ◌≢◌, ℕ, ◌^◌, ◌<◌, slice_index}
use Rattle.word_image.specs.LocalRules.{LocalRule}
use Rattle.word_image.specs.Graphs.{pair_of}
use Rattle.word_image.specs.Ranks.{IsEndless}
use Rattle.word_image.specs.declared.side.Side.{Side}
use Rattle.word_image.specs.Sides.{other, PairGoes}
use Rattle.word_image.specs.FirstPairs.{IsFirstOf}
use Rattle.word_image.specs.Ends.{window_with, end_node}

-- the window w with another end letter: the letter a replaces its last letter on the right, or its first letter on the left
abbrev pub with_end : Side → LocalRule → ℕ → ℕ → ℕ
with_end side r w a = window_with side r (end_node (other side) r w) a

-- the window w and the window with the end letter a are different and have equal labels
pub record AreFirst (side : Side) (r : LocalRule) (w a : ℕ) : Type 0 where
  pub window : w < r.states ^ r.width
  pub letter : a < r.states
  pub different : w ≢ with_end side r w a
  pub one_label : slice_index r.table w ≡ slice_index r.table (with_end side r w a)

-- the nodes at the ends of two windows on this side: of the window w and of the window with the end letter a
abbrev pub end_pair : Side → LocalRule → ℕ → ℕ → ℕ
end_pair side r w a = pair_of r (end_node side r w) (end_node side r (with_end side r w a))

-- some first pair of this side is endless: two walks with equal labels and of any length begin at its nodes on the right, or end at its nodes on the left
abbrev pub HasEndlessFirst : Side → LocalRule → Type 0
HasEndlessFirst side r = (p : ℕ) × IsFirstOf side r p × IsEndless (PairGoes side r p)
