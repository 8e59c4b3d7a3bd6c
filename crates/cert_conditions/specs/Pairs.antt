-- A list of pairs of nodes proves that a rule is surjective if it has no pair of two equal nodes, each first pair on
-- the right, and each pair that a step reaches from a listed pair. A first pair on the right consists of two nodes
-- that two different letters reach from the same node along edges with equal labels.
use Rattle.std.specs.Prelude.{◌≡◌, ℕ, List, Contains, Some}
use Rattle.word_image.specs.LocalRules.{LocalRule}
use Rattle.word_image.specs.Graphs.{follow}
use Rattle.word_image.specs.FirstPairs.{IsFirstOfRight}
use Rattle.cert_conditions.specs.Breaches.{EachBelow, IsFirstBreach}

-- if p is a first pair on the right, it is listed
abbrev pub FirstIsListed : LocalRule → List ℕ → ℕ → Type 0
FirstIsListed r pairs p = IsFirstOfRight r p → Contains pairs p

-- if the letters (a, b) lead from pair p to a pair q, the pair q is listed
abbrev pub StepIsListed : LocalRule → List ℕ → ℕ → ℕ → ℕ → Type 0
StepIsListed r pairs p a b = (q : ℕ) → follow r p a b ≡ Some q → Contains pairs q

-- each pair that a step reaches from the pair p is listed
abbrev pub StepsAreListed : LocalRule → List ℕ → ℕ → Type 0
StepsAreListed r pairs p = EachBelow r.states (λ a. EachBelow r.states (StepIsListed r pairs p a))

-- the letters (a, b) are the first ones that lead from pair p to an unlisted pair: a is the least such first letter, and b the least second letter for this a
pub record IsFirstLeaving (r : LocalRule) (pairs : List ℕ) (p a b : ℕ) : Type 0 where
  pub first : IsFirstBreach r.states (λ a. EachBelow r.states (StepIsListed r pairs p a)) a
  pub second : IsFirstBreach r.states (StepIsListed r pairs p a) b
