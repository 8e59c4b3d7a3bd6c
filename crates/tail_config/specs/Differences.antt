-- The first place at which two configurations differ, searched from cell 0 outward. The definitions below split a
-- configuration into two sequences of cells: the cells to the right, beginning at place 0, and the cells to the left,
-- beginning at place -1.
use Rattle.std.specs.Prelude.{◌≡◌, ◌≢◌, ℕ, ◌<◌, ◌≤◌, max, length, ℤ, pos, negsuc, ◌<ℤ◌, neg_ℤ, unsigned_abs}
use Rattle.tail_config.specs.Tails.{TailConfig, cell}

-- i is the place nearest to 0 at which the cells of x and y differ; if two places are equally near, it is the positive one
pub record IsNearestDifference (x y : TailConfig) (i : ℤ) : Type 0 where
  pub other : cell x i ≢ cell y i
  pub nearest : (j : ℤ) → unsigned_abs j < unsigned_abs i → cell x j ≡ cell y j
  pub tie : i <ℤ pos 0 → cell x (neg_ℤ i) ≡ cell y (neg_ℤ i)

-- the cells of a configuration at the places 0, 1, 2, and so on
abbrev pub right_cells : TailConfig → ℕ → ℕ
right_cells t i = cell t (pos i)

-- the cells of a configuration at the places -1, -2, -3, and so on
abbrev pub left_cells : TailConfig → ℕ → ℕ
left_cells t i = cell t (negsuc i)

-- i is the first number, at least `start`, at which the functions f and g differ
pub record IsFirstDifference (f g : ℕ → ℕ) (start i : ℕ) : Type 0 where
  pub from : start ≤ i
  pub other : f i ≢ g i
  pub before : (j : ℕ) → start ≤ j → j < i → f j ≡ g j

-- the greater of the lengths of the two middles
abbrev pub most_middle : TailConfig → TailConfig → ℕ
most_middle x y = max (length x.middle) (length y.middle)
