-- The queue of a breadth-first search through marked pairs. A marked pair is a pair of nodes with a mark, which is 1 if
-- the letters that led to the pair differed somewhere, and 0 if not. The queue has the marked pairs in the order in
-- which the search reached them. Each has a parent, which is the place in the queue from which it was reached, and the
-- step on which it was reached: letters a and b as the number a * 16 + b. The search has a start and perhaps a goal,
-- which are marked pairs.
use Rattle.std.specs.Prelude.{◌≡◌, ◌≢◌, ℕ, ◌+◌, ◌*◌, ◌<◌, ◌≤◌, List, ◌++◌, map, reverse, slice_get, Some, IsBitSet}
use Rattle.word_image.specs.LocalRules.{LocalRule, IsRule, most_states}
use Rattle.word_image.specs.Graphs.{pair_count}
use Rattle.word_image.specs.MarkedPairs.{marked, most_marked_pairs}
use Rattle.search_laws.specs.SearchQueues.{Place, TreeSpells, IsQueue, NoEdgeBefore}
use Rattle.search_laws.specs.PairWalks.{CodeStep}
use Rattle.least_walk.specs.declared.queue.Reached.{Reached}
use Rattle.least_walk.specs.declared.breadth_first.Ends.{Ends}
use Rattle.least_walk.specs.Marks.{HasPair}

-- a step from a marked pair to a marked pair on two letters a and b, which are given by the number a * 16 + b
abbrev pub MarkedStep : LocalRule → ℕ → ℕ → ℕ → Type 0
MarkedStep r = CodeStep (marked r) r.states most_states

-- the numbers a * 16 + b of two letters a and b are below this number
abbrev pub step_count : LocalRule → ℕ
step_count r = r.states * most_states

-- the greatest number of steps of a least walk, of which no two steps end at the same marked pair
abbrev pub most_steps : ℕ
most_steps = most_marked_pairs

-- a marked pair of the queue as a place of a search: the pair is the state, and the number of the two letters of the step is the letter
abbrev pub place_of : Reached → Place ℕ
place_of x = record { state = x.pair; parent = x.parent; letter = x.step }

abbrev pub places_of : List Reached → List (Place ℕ)
places_of = map place_of

-- each place has the right depth, the number of steps that lead to it: 0 for the first place, and one more than the depth of its parent for each later place
pub record HasDepths (queue : List Reached) : Type 0 where
  pub root : (x : Reached) → slice_get queue 0 ≡ Some x → x.depth ≡ 0
  pub more : (i : ℕ) (x : Reached) → 0 < i → slice_get queue i ≡ Some x → (p : Reached) × (slice_get queue x.parent ≡ Some p) × (x.depth ≡ p.depth + 1)

-- the search has followed the first e edges breadth first from the start, and none of these edges leads to the goal
pub record IsWalking (r : LocalRule) (ends : Ends) (queue : List Reached) (e : ℕ) : Type 0 where
  pub rule : IsRule r
  pub start_in : ends.start < 2 * pair_count r
  pub filled : IsQueue (MarkedStep r) (step_count r) ends.start (places_of queue) e
  pub depths : HasDepths queue
  pub none : (t : ℕ) → ends.goal ≡ Some t → NoEdgeBefore (MarkedStep r) (step_count r) (places_of queue) e t

-- the search has followed the first e edges, and the rows have exactly the marked pairs of the queue except the goal
pub record IsWalkSearch (r : LocalRule) (ends : Ends) (queue : List Reached) (rows : List ℕ) (e : ℕ) : Type 0 where
  pub walking : IsWalking r ends queue e
  pub listed : (t : ℕ) → t < 2 * pair_count r → HasPair r rows t → (ends.goal ≢ Some t) × ((i : ℕ) × (x : Reached) × (slice_get queue i ≡ Some x) × (x.pair ≡ t))
  pub all : (i : ℕ) (x : Reached) → slice_get queue i ≡ Some x → ends.goal ≢ Some x.pair → HasPair r rows x.pair

-- the search has ended: it has followed the edges from all places before the place `head`, each place from `head` on is at least `most` steps away from the start, and no place is more than `most` steps away
pub record IsEnded (r : LocalRule) (ends : Ends) (queue : List Reached) (most : ℕ) : Type 0 where
  pub edges : ℕ
  pub head : ℕ
  pub followed : head * step_count r ≤ edges
  pub deep : (i : ℕ) (x : Reached) → head ≤ i → slice_get queue i ≡ Some x → most ≤ x.depth
  pub near : (i : ℕ) (x : Reached) → slice_get queue i ≡ Some x → x.depth ≤ most
  pub walking : IsWalking r ends queue edges

-- the first edge that leads to the goal begins at the place `place` of the queue, and its two letters have the number `step`
pub record IsArrival (r : LocalRule) (ends : Ends) (queue : List Reached) (place step : ℕ) : Type 0 where
  pub from : Reached
  pub stands : slice_get queue place ≡ Some from
  pub letters : step < step_count r
  pub walking : IsWalking r ends queue (place * step_count r + step)
  pub goal : ℕ
  pub sought : ends.goal ≡ Some goal
  pub arrives : MarkedStep r from.pair step goal

-- fewer than `most` steps lead from the start to the place `place` of the queue
abbrev pub IsNearStart : List Reached → ℕ → ℕ → Type 0
IsNearStart queue place most = (x : Reached) → slice_get queue place ≡ Some x → x.depth < most

-- each step from the marked pair at this place, on the first letter a and a second letter that isn't in the set `letters`, leads to a marked pair that is in the rows
abbrev pub IsOldBut : LocalRule → List Reached → List ℕ → ℕ → ℕ → ℕ → Type 0
IsOldBut r queue rows place a letters =
    (x : Reached) (b q : ℕ) → slice_get queue place ≡ Some x → b < r.states → ¬ IsBitSet letters b → marked r x.pair a b ≡ Some q → HasPair r rows q

-- each marked pair except the first was reached from an earlier place
abbrev pub IsBackward : List Reached → Type 0
IsBackward queue = (i : ℕ) (x : Reached) → 0 < i → slice_get queue i ≡ Some x → x.parent < i

-- `steps` has the steps from the start to this place, followed by the steps of `old` in reverse order
abbrev pub SpellsBefore : List Reached → ℕ → List ℕ → List ℕ → Type 0
SpellsBefore queue place old steps = (w : List ℕ) × TreeSpells (places_of queue) place w × (steps ≡ w ++ reverse old)
