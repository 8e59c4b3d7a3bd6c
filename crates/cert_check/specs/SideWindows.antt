-- A row has a claim for each pair of nodes: an upper bound of the rank of the pair, or None. Steps lead from pair to
-- pair, forward on the right side of the line and backward on the left side. This file defines how claims fall along a
-- step, and nodes without their end letter.
use Rattle.std.specs.Prelude.{◌≡◌, ℕ, List, Option, Some, ◌-◌, ◌/◌, ◌%◌, ◌^◌}
use Rattle.word_image.specs.LocalRules.{LocalRule}
use Rattle.word_image.specs.Graphs.{follow_on}
use Rattle.word_image.specs.declared.side.Side.{Side}
use Rattle.cert_conditions.specs.Claims.{IsBelow}
use Rattle.word_image.specs.declared.side.Side.TheVariants.{Right, Left}

-- if the letters (a, b) lead on this side from pair p to a pair q, the row claims a number below n for q
abbrev pub FallsBy : Side → LocalRule → List (Option ℕ) → ℕ → ℕ → ℕ → ℕ → Type 0
FallsBy side r row p n a b = (q : ℕ) → follow_on side r p a b ≡ Some q → IsBelow row q n

-- the value of the node u without its last letter on the right side, or without its first letter on the left side
abbrev pub rest_of : Side → LocalRule → ℕ → ℕ
rest_of Right r u = u / r.states
rest_of Left r u = u % r.states ^ (r.width - 2)
