-- A search fixes some letters of a rule's table: the list `letters` has a number for each window, and a number below
-- the number of states fixes the letter of its window. A fixed step leads from a pair of nodes to a pair of nodes
-- along two windows that have the same fixed letter. This file defines the pairs from which fixed steps continue
-- without end: forward on the right, backward on the left. A node is a word of m - 1 letters, by its value.
use Rattle.std.specs.Prelude.{◌≡◌, ◌≢◌, ℕ, ◌^◌, ◌<◌, ◌⊎◌, List, slice_index}
use Rattle.word_image.specs.LocalRules.{LocalRule, node_count}
use Rattle.word_image.specs.Ends.{window_with}
use Rattle.word_image.specs.Graphs.{next, pair_of, first_of, second_of, pair_count}
use Rattle.word_image.specs.declared.side.Side.{Side}
use Rattle.pair_laws.specs.FirstWindows.{with_end, end_pair}
use Rattle.word_image.specs.declared.side.Side.TheVariants.{Right, Left}

-- a fixed step: the letters a and b lead from the two nodes of p to the two nodes of q, along windows with the same fixed letter; only the states and the width of r matter
pub record IsFixedStep (r : LocalRule) (letters : List ℕ) (p q : ℕ) : Type 0 where
  pub a : ℕ
  pub b : ℕ
  pub in_pairs : p < pair_count r
  pub a_letter : a < r.states
  pub b_letter : b < r.states
  pub fixed : slice_index letters (window_with Right r (first_of r p) a) < r.states
  pub one : slice_index letters (window_with Right r (first_of r p) a) ≡ slice_index letters (window_with Right r (second_of r p) b)
  pub to : pair_of r (next r (first_of r p) a) (next r (second_of r p) b) ≡ q

-- a fixed step leads from pair p to pair q on the right, or from q to p on the left
abbrev pub FixedLeadsOn : Side → LocalRule → List ℕ → ℕ → ℕ → Type 0
FixedLeadsOn Right r letters p q = IsFixedStep r letters p q
FixedLeadsOn Left r letters p q = IsFixedStep r letters q p

-- each pair of the set has two equal nodes, or a fixed step leads on this side from it to a pair of the set
abbrev pub AreEndlessOn : Side → LocalRule → List ℕ → (ℕ → Type 0) → Type 0
AreEndlessOn side r letters Set = (p : ℕ) → Set p → (p < pair_count r) × ((first_of r p ≡ second_of r p) ⊎ ((q : ℕ) × FixedLeadsOn side r letters p q × Set q))

-- replacing the letter of the window w at its end on this side by a gives another window with the same fixed letter; the pair of the two nodes at this end is in `Set`
pub record IsFixedEndless (side : Side) (r : LocalRule) (letters : List ℕ) (Set : ℕ → Type 0) (w a : ℕ) : Type 0 where
  pub window : w < r.states ^ r.width
  pub letter : a < r.states
  pub different : w ≢ with_end side r w a
  pub fixed : slice_index letters w < r.states
  pub one : slice_index letters w ≡ slice_index letters (with_end side r w a)
  pub inside : with_end side r w a < r.states ^ r.width
  pub endless : Set (end_pair side r w a)

-- from one node, two different letters lead to the two nodes of the pair p, along windows with the same fixed letter
pub record IsFixedFirst (r : LocalRule) (letters : List ℕ) (p : ℕ) : Type 0 where
  pub node : ℕ
  pub a : ℕ
  pub b : ℕ
  pub in_nodes : node < node_count r
  pub a_letter : a < r.states
  pub b_letter : b < r.states
  pub different : a ≢ b
  pub fixed : slice_index letters (window_with Right r node a) < r.states
  pub one : slice_index letters (window_with Right r node a) ≡ slice_index letters (window_with Right r node b)
  pub pair : p ≡ pair_of r (next r node a) (next r node b)
