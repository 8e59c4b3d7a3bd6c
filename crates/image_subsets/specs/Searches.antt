-- A breadth-first search through sets of nodes, which begins at the set of all nodes. An edge of the search is a step
-- on a letter: it leads from a set to the set of all nodes that edges with this label reach from the set. With k
-- letters, letter a of the set at place i is edge i * k + a. The number e says how many edges the search has followed
-- so far.
use Rattle.std.specs.Prelude.{◌≡◌, ℕ, ◌-◌, ◌<◌, List, length, slice_get, Option, Some, MatchOption, Contains, Bool, true, false}
use Rattle.word_image.specs.LocalRules.{LocalRule}
use Rattle.word_image.specs.Graphs.{full_set}
use Rattle.word_image.specs.Edges.{IsStep}
use Rattle.search_laws.specs.SearchQueues.{Place, IsSearch}

-- `way` is the parent of the place i of a tree: the place and the letter from which its set was reached, or None if i is the first place
abbrev pub IsWay : List (Place ℕ) → ℕ → Option (ℕ × ℕ) → Type 0
IsWay tree i way = MatchOption way (i ≡ 0) (λ (p, a). (x : Place ℕ) × (0 < i) × (slice_get tree i ≡ Some x) × (x.parent ≡ p) × (x.letter ≡ a))

-- The search has followed its first e edges, and `parents` has the parent of each set.
pub record IsTreeSearch (r : LocalRule) (sets : List ℕ) (parents : List (Option (ℕ × ℕ))) (e : ℕ) : Type 0 where
  pub search : IsSearch (IsStep r) r.states (full_set r) sets e
  pub one_each : length parents ≡ length sets
  pub ways : (i : ℕ) (way : Option (ℕ × ℕ)) → slice_get parents i ≡ Some way → IsWay search.tree i way

-- the last set of the list is the empty set
abbrev pub EndsEmpty : List ℕ → Type 0
EndsEmpty sets = slice_get sets (length sets - 1) ≡ Some 0

-- `true`: the search has stopped at the empty set, which is the last set of the list. `false`: the search has followed its first e edges and has found no empty set
abbrev pub IsExpanded : LocalRule → List ℕ → List (Option (ℕ × ℕ)) → ℕ → Bool → Type 0
IsExpanded r sets parents e true = ((n : ℕ) × IsTreeSearch r sets parents n) × EndsEmpty sets
IsExpanded r sets parents e false = IsTreeSearch r sets parents e × ¬ Contains sets 0
