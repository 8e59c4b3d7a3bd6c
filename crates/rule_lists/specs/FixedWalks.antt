-- A search fixes some letters of a rule's table: the list `letters` has a number for each window, and a number below
-- the number of states fixes the letter of its window. This file says what walks by fixed letters show of each rule
-- that has these letters. On the right the steps of a walk lead forward, and on the left backward.
use Rattle.std.specs.Prelude.{◌≡◌, ℕ, List}
use Rattle.word_image.specs.LocalRules.{LocalRule}
use Rattle.word_image.specs.FirstPairs.{IsFirstOf}
use Rattle.word_image.specs.Ranks.{IsEndless}
use Rattle.word_image.specs.Sides.{other, PairGoes}
use Rattle.word_image.specs.declared.side.Side.{Side}
use Rattle.word_image.specs.declared.side.Side.TheVariants.{Right}
use Rattle.garden_laws.specs.ReachedPairs.{IsReached}
use Rattle.rule_lists.specs.Completions.{IsCompletion}

-- a walk on this side leads from the pair p to the pair q: p goes on for as many steps as q, q goes back for as many steps as p, and on the right q is reached if p is
pub record IsBefore (side : Side) (s : LocalRule) (p q : ℕ) : Type 0 where
  pub on : (n : ℕ) → PairGoes side s q n → PairGoes side s p n
  pub back : (n : ℕ) → PairGoes (other side) s p n → PairGoes (other side) s q n
  pub reached : side ≡ Right → IsReached s p → IsReached s q

-- in each rule that has the fixed letters, the pair q comes after the pair p on this side
abbrev pub IsFixedWalk : Side → LocalRule → List ℕ → ℕ → ℕ → Type 0
IsFixedWalk side r letters p q = (s : LocalRule) → IsCompletion r.states r.width letters s → IsBefore side s p q

-- in each rule that has the fixed letters, walks of every length with equal labels begin at the two nodes of the pair, and such walks end at them
abbrev pub IsFixedCycle : LocalRule → List ℕ → ℕ → Type 0
IsFixedCycle r letters p = (s : LocalRule) → IsCompletion r.states r.width letters s → (side : Side) → IsEndless (PairGoes side s p)

-- in each rule that has the fixed letters, the pair p comes after a first pair of this side
abbrev pub ComesAfterFirst : Side → LocalRule → List ℕ → ℕ → Type 0
ComesAfterFirst side r letters p = (s : LocalRule) → IsCompletion r.states r.width letters s → (q : ℕ) × IsFirstOf side s q × IsBefore side s q p
