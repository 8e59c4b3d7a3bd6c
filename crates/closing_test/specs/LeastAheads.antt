-- The least look-ahead of a rule that is closing on a side. It is two more than the greatest rank of a first pair on
-- this side, or 1 if there is no first pair. Take two different windows with equal labels that differ only in the
-- letter at their end on this side. The nodes at these ends are their first pair. The rank of a pair is the greatest
-- length of two walks with equal labels that begin at its nodes on the right, or end at its nodes on the left.
use Rattle.std.specs.Prelude.{◌≡◌, ℕ, ◌+◌, ◌-◌, ◌≤◌}
use Rattle.word_image.specs.LocalRules.{LocalRule}
use Rattle.word_image.specs.declared.side.Side.{Side}
use Rattle.pair_laws.specs.FirstWindows.{AreFirst, end_pair}

-- n is the least number, at least 1, for which no pair in `Among` has a rank of n - 1 or more
pub record IsLeastFor (Among : ℕ → Type 0) (Goes : ℕ → ℕ → Type 0) (n : ℕ) : Type 0 where
  pub some : 1 ≤ n
  pub apart : (p : ℕ) → Among p → ¬ Goes p (n - 1)
  pub needed : (j : ℕ) → j + 2 ≡ n → (p : ℕ) × Among p × Goes p j

-- p is the first pair of the window w and the window with the letter a in place of its end letter on this side
abbrev pub IsFirstWith : Side → LocalRule → ℕ → ℕ → ℕ → Type 0
IsFirstWith side r w a p = AreFirst side r w a × (p ≡ end_pair side r w a)

-- p is the first pair of the window w and some window that differs from w only in the end letter on this side
abbrev pub IsFirstAt : Side → LocalRule → ℕ → ℕ → Type 0
IsFirstAt side r w p = (a : ℕ) × IsFirstWith side r w a p
