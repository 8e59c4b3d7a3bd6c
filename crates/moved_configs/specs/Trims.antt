-- The windows for which the rule gives their own letter at a place, and the nodes from which they lead on for ever on
-- both sides. A node is a word of m - 1 letters.
use Rattle.std.specs.Prelude.{◌≡◌, ℕ, ◌^◌, ◌<◌, ◌≤◌, List, slice_index, ℤ, pos, ◌+ℤ◌, IsBitSet}
use Rattle.word_image.specs.LocalRules.{LocalRule, word_of, node_count}
use Rattle.word_image.specs.Graphs.{IsNodeSet, IsSetOf}
use Rattle.word_image.specs.Ends.{window_with, end_node, end_at}
use Rattle.word_image.specs.declared.side.Side.{Side}
use Rattle.word_image.specs.declared.side.Side.TheVariants.{Right, Left}

-- the rule keeps the window: it gives for it the letter at place p of the window
abbrev pub IsKept : LocalRule → ℕ → ℕ → Type 0
IsKept r p w = slice_index r.table w ≡ slice_index (word_of r.states r.width w) p

-- a kept window leads from node u, on letter a, to a node of the set; forward on the right, and backward on the left
abbrev pub Goes : Side → LocalRule → ℕ → ℕ → ℕ → ℕ → Type 0
Goes side r p set u a = IsKept r p (window_with side r u a) × IsBitSet set (end_at side r u a)

-- some kept window leads from node u to a node of the set
abbrev pub GoesOn : Side → LocalRule → ℕ → ℕ → ℕ → Type 0
GoesOn side r p set u = (a : ℕ) × (a < r.states) × Goes side r p set u a

-- the nodes of the set `after` are those of the set from which kept windows lead to nodes of the set, forward and backward
abbrev pub IsTrimmed : LocalRule → ℕ → ℕ → ℕ → Type 0
IsTrimmed r p set = IsNodeSet r (λ u. IsBitSet set u × (GoesOn Right r p set u × GoesOn Left r p set u))

-- kept windows lead from node to node, for ever on both sides
abbrev pub IsEndlessWalk : LocalRule → ℕ → (ℤ → ℕ) → Type 0
IsEndlessWalk r p v = (i : ℤ) → (w : ℕ) × (w < r.states ^ r.width) × (IsKept r p w × ((end_node Left r w ≡ v i) × (end_node Right r w ≡ v (i +ℤ pos 1))))

-- a trim doesn't change the set, and each walk that is endless on both sides stays in it
pub record IsCore (r : LocalRule) (p : ℕ) (set : ℕ) : Type 0 where
  pub fixed : IsTrimmed r p set set
  pub walks : (v : ℤ → ℕ) → IsEndlessWalk r p v → (i : ℤ) → IsBitSet set (v i)

-- the window of node u and letter a is kept, and leads from a node of the set to a node of the set
abbrev pub Stays : LocalRule → ℕ → ℕ → ℕ → ℕ → Type 0
Stays r p set u a = IsBitSet set u × Goes Right r p set u a

-- the rows have the kept windows that lead from a node of the set to a node of the set
pub record AreWindowSets (r : LocalRule) (p set : ℕ) (rows : List ℕ) : Type 0 where
  pub letters : (u : ℕ) → u < node_count r → IsSetOf r.states (Stays r p set u) (slice_index rows u)
  pub rest : (u : ℕ) → node_count r ≤ u → slice_index rows u ≡ 0
