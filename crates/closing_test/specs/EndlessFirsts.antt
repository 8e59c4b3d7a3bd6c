-- Endless first pairs, which show that a rule isn't closing on a side. Take two different windows with equal labels
-- that differ only in the letter at their end on this side. The nodes at these ends are their first pair. On the right,
-- a first pair is endless if walks of any length with equal labels begin at its two nodes. On the left, such walks end
-- at its two nodes.
use Rattle.std.specs.Prelude.{ℕ, ◌<◌}
use Rattle.word_image.specs.LocalRules.{LocalRule}
use Rattle.word_image.specs.Ranks.{IsEndless}
use Rattle.word_image.specs.declared.side.Side.{Side}
use Rattle.word_image.specs.Sides.{PairGoes}
use Rattle.pair_laws.specs.FirstWindows.{AreFirst, end_pair}

-- the window w and the window with the end letter a have an endless first pair
pub record IsEndlessWith (side : Side) (r : LocalRule) (w a : ℕ) : Type 0 where
  pub first : AreFirst side r w a
  pub endless : IsEndless (PairGoes side r (end_pair side r w a))

-- for some letter a, the window w and the window with the end letter a have an endless first pair
abbrev pub IsEndlessAt : Side → LocalRule → ℕ → Type 0
IsEndlessAt side r w = (a : ℕ) × (a < r.states) × IsEndlessWith side r w a
