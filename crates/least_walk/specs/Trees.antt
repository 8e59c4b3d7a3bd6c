-- The least walks from one marked pair, the start, to all marked pairs. A marked pair is a pair of nodes with a mark,
-- which is 1 if the letters that led to the pair differed somewhere, and 0 if not. The queue has the marked pairs in
-- the order in which a breadth-first search reaches them.
use Rattle.std.specs.Prelude.{◌≡◌, ℕ, ◌<◌, ◌≤◌, List, length, map, slice_get, slice_index, Some, None}
use Rattle.word_image.specs.MarkedPairs.{most_marked_pairs}
use Rattle.word_image.specs.LocalRules.{LocalRule}
use Rattle.least_walk.specs.declared.queue.Reached.{Reached}
use Rattle.least_walk.specs.Queues.{IsEnded}

-- the walks that are searched: walks of a rule, from the marked pair `start`, of at most `most` steps
pub record WalkSource : Type 0 where
  pub rule : LocalRule
  pub start : ℕ
  pub most : ℕ

-- the least of these walks to each marked pair, and the numbers of the marked pairs that they reach, in the order of the walks
pub record LeastWalks : Type 0 where
  pub source : WalkSource
  pub reached : List ℕ

-- the numbers of the marked pairs in the queue
abbrev pub pairs_of : List Reached → List ℕ
pairs_of = map (λ x. x.pair)

-- the queue has each marked pair at most once
pub record AreApart (queue : List Reached) : Type 0 where
  pub few : length queue ≤ most_marked_pairs
  pub below : (i : ℕ) (x : Reached) → slice_get queue i ≡ Some x → x.pair < most_marked_pairs
  pub apart : (i j : ℕ) (x y : Reached) → slice_get queue i ≡ Some x → slice_get queue j ≡ Some y → x.pair ≡ y.pair → i ≡ j

-- `places` is an index of the queue: at the number of each marked pair of the queue, it has the place of this pair in the queue
abbrev pub IsPairIndex : List Reached → List ℕ → Type 0
IsPairIndex queue places = (i : ℕ) (x : Reached) → slice_get queue i ≡ Some x → slice_index places x.pair ≡ i

-- the queue has all marked pairs that at most `most` steps reach from the start, and the list `places` has their places in the queue
pub record IsWalkTree (r : LocalRule) (start most : ℕ) (queue : List Reached) (places : List ℕ) : Type 0 where
  pub ended : IsEnded r (record { start = start; goal = None }) queue most
  pub index : IsPairIndex queue places
