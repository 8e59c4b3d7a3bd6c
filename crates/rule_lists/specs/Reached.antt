-- Two walks with equal labels leave one node by different letters. The pairs of nodes at which they are after equally
-- many steps are called reached. A search fixes some letters of a rule's table; this file defines the pairs that are
-- reached in each rule with the fixed letters.
use Rattle.std.specs.Prelude.{ℕ, List}
use Rattle.word_image.specs.LocalRules.{LocalRule}
use Rattle.rule_lists.specs.EndlessPairs.{IsFixedStep, IsFixedFirst}

-- walks by fixed letters reach the pair: two different letters lead from one node to the two nodes of a pair, and zero or more steps lead from this pair to the reached one
pub data IsFixedReached (r : LocalRule) (letters : List ℕ) : ℕ → Type 0 where
  First : (p : ℕ) → IsFixedFirst r letters p → IsFixedReached r letters p
  On : (p q : ℕ) → IsFixedReached r letters p → IsFixedStep r letters p q → IsFixedReached r letters q
