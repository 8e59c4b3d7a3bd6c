use Rattle.std.proofs.Common.{◌≡◌, ℕ, ◌+◌, ◌<◌, ◌≤◌, ℤ, pos, negsuc, ⊎_elim, arith}
use Rattle.word_image.proofs.Common.{cases_lt, ints}
use Rattle.tail_config.specs.Tails.{TailConfig}
use Rattle.tail_config.specs.Differences.{IsNearestDifference, IsFirstDifference, left_cells, right_cells}
use Rattle.tail_config.proofs.compare.differ.Goals as goal

-- the first difference right of place -1 is the nearest where there is none nearer on the left
nearest_right : (x y : TailConfig) (i : ℕ) (place : ℤ) → place ≡ pos i → IsFirstDifference (right_cells x) (right_cells y) 0 i
    → ((j : ℕ) → j + 1 < i → left_cells x j ≡ left_cells y j) → IsNearestDifference x y place
nearest_right x y i place at first left = grind arith

-- the first difference left of place 0 is the nearest where there is none as near on the right
nearest_left : (x y : TailConfig) (i : ℕ) (place : ℤ) → place ≡ negsuc i → IsFirstDifference (left_cells x) (left_cells y) 0 i
    → ((j : ℕ) → j ≤ i + 1 → right_cells x j ≡ right_cells y j) → IsNearestDifference x y place
nearest_left x y i place at first right = grind arith

pub returns-in-None-Some-clause-same : goal.returns-in-None-Some-clause-same
returns-in-None-Some-clause-same c = (λ e. absurd (cc), λ same. absurd (c.in-None-Some.ensures.first.other (same (negsuc c.in-None-Some.left))))

pub returns-in-None-Some-clause-nearest : goal.returns-in-None-Some-clause-nearest
returns-in-None-Some-clause-nearest c =
    let near = c.in-None-Some.ensures.near in
    nearest_left _ _ c.in-None-Some.left _ (omega (arith, ints)) c.in-None-Some.ensures.first
    (λ j l. (rw c.in-None-Some.is-0 at c.first_right.ensures.none) j (omega arith))

pub returns-in-Some-None-clause-same : goal.returns-in-Some-None-clause-same
returns-in-Some-None-clause-same c = (λ e. absurd (cc), λ same. absurd (c.in-Some-None.ensures.first.other (same (pos c.in-Some-None.right))))

pub returns-in-Some-None-clause-nearest : goal.returns-in-Some-None-clause-nearest
returns-in-Some-None-clause-nearest c =
    let near = c.in-Some-None.ensures.near in
    nearest_right _ _ c.in-Some-None.right _ (omega (arith, ints)) c.in-Some-None.ensures.first (λ j l. (rw c.in-Some-None.is-1 at c.first_left.ensures.none) j)

pub returns-in-Some-Some-clause-same : goal.returns-in-Some-Some-clause-same
returns-in-Some-Some-clause-same c = (λ e. absurd (cc), λ same. absurd (c.in-Some-Some.ensures.first.other (same (pos c.in-Some-Some.right))))

pub returns-in-Some-Some-clause-nearest : goal.returns-in-Some-Some-clause-nearest
returns-in-Some-Some-clause-nearest c =
    let right = c.in-Some-Some.ensures in
    let left = c.in-Some-Some.ensures' in
    ⊎_elim (λ less. let at = c.nearer.ensures.left less in nearest_left _ _ _ _ (omega (arith, ints)) left.first (λ n l. right.first.before n (omega arith) (omega arith)))
    (λ more. let at = c.nearer.ensures.right more in nearest_right _ _ _ _ (omega (arith, ints)) right.first (λ n l. left.first.before n (omega arith) (omega arith)))
    (cases_lt (c.in-Some-Some.left + 1) c.in-Some-Some.right)
