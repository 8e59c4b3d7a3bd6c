-- The tree of a search that has ended with all that is reached.
use Rattle.std.proofs.Common.{append-nil, ◌≡◌, ◌≢◌, ℕ, ◌*◌, ◌<◌, ◌≤◌, List, [], ◌∷◌, length, map, Option, Some, None, ap, ◌∙◌, arith, slice_get, IfSome, IfNone, All, Contains, slice_index_or}
use Rattle.word_image.proofs.Common.{length-map, All-map, none-some, slice_get-get_or, LocalRule, pair_count, marked, Contains-slice_get}
use Rattle.search_laws.proofs.Common.{TreeSpells, mapped_at, TreeSpells-some, PairWalk-leads, pairs_cmp-leads, code, Leads-walk, PairWalk, IsLeastWalkTo, uncode}
use Rattle.search_laws.proofs.LeastFirst.{IsLeastTo-spelled, reached_all}
use Rattle.least_walk.specs.declared.queue.Reached.{Reached}
use Rattle.least_walk.specs.declared.breadth_first.Arrival.{Arrival}
use Rattle.least_walk.specs.declared.breadth_first.Ends.{Ends}
use Rattle.least_walk.specs.Queues.{places_of, place_of, SpellsBefore, IsWalking, IsEnded, IsArrival}
use Rattle.least_walk.specs.Trees.{AreApart, IsWalkTree, pairs_of}
use Rattle.least_walk.proofs.Walking.{place_at, reached_at, IsListed, states-few, length-walking-le, length-walked, no_walk-edge, queued-below, all_followed}

-- a search without a goal doesn't arrive
pub ended : {r : LocalRule} {start : ℕ} {queue : List Reached} {most : ℕ} → (found : Option Arrival)
    → IfSome found (λ a. IsArrival r (record { start = start; goal = None }) queue a.place a.step)
    → IfNone found (IsEnded r (record { start = start; goal = None }) queue most)
    → IsEnded r (record { start = start; goal = None }) queue most
ended None found none = none
ended (Some a) found none = absurd (none-some found.goal found.sought)

-- the pairs that stand in the queue of a search are apart
pub AreApart-walking : {r : LocalRule} {ends : Ends} {queue : List Reached} {e : ℕ} → IsWalking r ends queue e → AreApart queue
AreApart-walking {queue = queue} w = record {
  few = length-walking-le w;
  below = λ i x at. omega (arith, queued-below w i x at, states-few w.rule);
  apart = λ i j x y at there same. w.filled.apart i j (place_of x) (place_of y) (place_at queue i x at) (place_at queue j y there) same;
}

-- the steps to a place are the least walk to what stands there
pub IsLeastWalkTo-spelled : {r : LocalRule} {ends : Ends} {queue : List Reached} {e i : ℕ} {w : List ℕ} → IsWalking r ends queue e
    → TreeSpells (places_of queue) i w
    → (x : Reached) → slice_get queue i ≡ Some x → IsLeastWalkTo (marked r) r.states ends.start x.pair (map (uncode 16) w)
IsLeastWalkTo-spelled {r} {queue = queue} {i = i} {w} walking spells x at =
    let le : r.states ≤ 16 = walking.rule.shape.most_states in
    let first = IsLeastTo-spelled walking.filled spells (place_of x) (place_at queue i x at) in
    record { walk = PairWalk-leads first.leads; least = λ v other. pairs_cmp-leads le first.leads other (first.least (map (code 16) v) (Leads-walk 16 le other)) }

-- no walk of at most `most` steps leads to what stands at no place
pub no_walk-absent : {r : LocalRule} {start most t : ℕ} {queue : List Reached} {places : List ℕ} → IsWalkTree r start most queue places
    → ((i : ℕ) (x : Reached) → slice_get queue i ≡ Some x → x.pair ≢ t)
    → (w : List (ℕ × ℕ)) → length w ≤ most → ¬ PairWalk (marked r) r.states start w t
no_walk-absent {queue = queue} tree absent [] short walk =
    let fills = tree.ended.walking.filled.fills in
    let (x, root, alike) = reached_at queue 0 fills.first fills.root in
    absent 0 x root (ap (λ z. z.state) alike ∙ fills.starts ∙ walk.steps)
no_walk-absent {queue = queue} tree absent (ab ∷ w) short walk =
    no_walk-edge tree.ended
    (λ i a u y at letter less step same.
    let (j, z, there, state, _) = tree.ended.walking.filled.fills.done i a u y at letter less step in
    let (x, stands, alike) = reached_at queue j z there in
    absent j x stands (ap (λ p. p.state) alike ∙ state ∙ same))
    (ab ∷ w) (omega arith) short walk

-- with a bound of 512 all marked pairs to which walks lead are in the queue
walked : {r : LocalRule} {start most t : ℕ} {queue : List Reached} {places : List ℕ} {w : List (ℕ × ℕ)} → IsWalkTree r start most queue places
    → 512 ≤ most → PairWalk (marked r) r.states start w t → IsListed queue t
walked {t = t} {queue = queue} {w = w} tree large walk =
    let walking = tree.ended.walking in
    let reached = reached_all walking.filled (all_followed large tree.ended) (map (code 16) w) t (Leads-walk 16 walking.rule.shape.most_states walk) in
    let (x, at, alike) = reached_at queue reached.at reached.place reached.stands in
    (reached.at, x, at, ap (λ z. z.state) alike ∙ reached.of_state)

-- with a bound of 512 all marked pairs to which walks lead are reached
pub Contains-walk : {r : LocalRule} {start most t : ℕ} {queue : List Reached} {places : List ℕ} {w : List (ℕ × ℕ)}
    → IsWalkTree r start most queue places → 512 ≤ most → PairWalk (marked r) r.states start w t
    → Contains (pairs_of queue) t
Contains-walk {t = t} {queue = queue} tree large walk =
    let (i, x, at, same) = walked tree large walk in
    Contains-slice_get (pairs_of queue) i t (mapped_at (λ (y : Reached). y.pair) queue i x at ∙ ap Some same)

-- each pair that a walk tree has reached is a marked pair
pub All-pairs : {r : LocalRule} {start most : ℕ} {queue : List Reached} {places : List ℕ} → IsWalkTree r start most queue places
    → All (λ t. t < 2 * pair_count r) (pairs_of queue)
All-pairs {r} {queue = queue} tree =
    All-map (λ t. t < 2 * pair_count r) (λ (x : Reached). x.pair) queue
    (λ i d l. queued-below tree.ended.walking i (slice_index_or queue i d) (slice_get-get_or queue i d l))

-- with a bound of 512 no walk at all leads to a marked pair that isn't in the queue
pub no_walk-absent_all : {r : LocalRule} {start most t : ℕ} {queue : List Reached} {places : List ℕ} → IsWalkTree r start most queue places
    → ((i : ℕ) (x : Reached) → slice_get queue i ≡ Some x → x.pair ≢ t)
    → 512 ≤ most → (w : List (ℕ × ℕ)) → ¬ PairWalk (marked r) r.states start w t
no_walk-absent_all tree absent large w walk = let (i, x, at, same) = walked tree large walk in absent i x at same

-- the steps that spell the way to a place, written before nothing, are the least walk to its pair, and at most as many as the bound
pub IsLeastWalkTo-steps : {r : LocalRule} {start most : ℕ} {queue : List Reached} {places : List ℕ} {i : ℕ} {steps : List ℕ}
    → IsWalkTree r start most queue places
    → (x : Reached) → slice_get queue i ≡ Some x → SpellsBefore queue i [] steps
    → IsLeastWalkTo (marked r) r.states start x.pair (map (uncode 16) steps) × (length steps ≤ most)
IsLeastWalkTo-steps {i = i} tree x at (w, spells, whole) =
    let walking = tree.ended.walking in
    rw (whole, append-nil w) (IsLeastWalkTo-spelled walking spells x at, omega (arith, length-walked walking spells x at, tree.ended.near i x at))

-- the least walk to what stands at a place has as many steps as lead there, and no more than the bound
pub steps-place : {r : LocalRule} {start most : ℕ} {queue : List Reached} {places : List ℕ} (i : ℕ) → IsWalkTree r start most queue places
    → (x : Reached) → slice_get queue i ≡ Some x
    → ((w : List (ℕ × ℕ)) × IsLeastWalkTo (marked r) r.states start x.pair w × (length w ≡ x.depth)) × (x.depth ≤ most)
steps-place {queue = queue} i tree x at =
    let walking = tree.ended.walking in
    let (w, spells) = TreeSpells-some walking.filled.fills i (place_of x) (place_at queue i x at) in (
      (map (uncode 16) w, IsLeastWalkTo-spelled walking spells x at, length-map w (uncode 16) ∙ length-walked walking spells x at),
      tree.ended.near i x at,
    )
