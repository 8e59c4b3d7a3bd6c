-- Searches for the unread sets of a rule and for the classes of its least automaton. A word is read from a node if the
-- labels of some walk from the node spell it. A set is unread if it consists of the nodes from which some word isn't
-- read. The closure of a set is the intersection of the unread sets that contain it. A closed step on a letter leads
-- from a set to the closure of the set that a step on the letter reaches.
use Rattle.std.specs.Prelude.{◌≡◌, ℕ, ◌+◌, ◌*◌, ◌^◌, ◌<◌, ◌≤◌, ◌↔◌, List, length, slice_get, slice_index, Some, Contains}
use Rattle.word_image.specs.LocalRules.{LocalRule, IsRule, node_count}
use Rattle.word_image.specs.Graphs.{full_set}
use Rattle.word_image.specs.Edges.{IsStep}
use Rattle.search_laws.specs.SearchQueues.{IsSearch}
use Rattle.image_minimal.specs.ImageLanguages.{Automaton, IsLeastAutomaton}
use Rattle.image_minimal.specs.Closures.{IsUnreadSet, IsClosedStep, AreClosures}
use Rattle.image_minimal.specs.Indexes.{IsPlaceOf}

-- the list has exactly the unread sets of the rule
abbrev pub AreUnreadSets : LocalRule → List ℕ → Type 0
AreUnreadSets r sets = (set : ℕ) → Contains sets set ↔ IsUnreadSet r set

-- IsClassSearch r states e: `states` lists the sets that a breadth-first search from the set of all nodes has reached by its first e edges, if it takes the closure after each step
abbrev pub IsClassSearch : LocalRule → List ℕ → ℕ → Type 0
IsClassSearch r = IsSearch (IsClosedStep r) r.states (full_set r)

-- `closures` has the closure of each set, and `classes` has one set for each class of the least automaton. A step from the set of a class leads to a set whose closure is the set of the next class. The class of the orphans has the empty set
pub record HasClasses (r : LocalRule) (closures classes : List ℕ) : Type 0 where
  pub rule : IsRule r
  pub closed : AreClosures r closures
  pub automaton : Automaton
  pub least : IsLeastAutomaton r automaton
  pub long : automaton.classes ≡ length classes
  pub some : 1 ≤ length classes
  pub below : (i : ℕ) → i < length classes → slice_index classes i < 2 ^ node_count r
  pub next : (i a from to : ℕ) → i < length classes → from ≡ slice_index classes i → a < r.states → IsStep r from a to
      → slice_get classes (slice_index automaton.next (i * automaton.states + a)) ≡ Some (slice_index closures to)
  pub dead : IsPlaceOf classes 0 automaton.dead
