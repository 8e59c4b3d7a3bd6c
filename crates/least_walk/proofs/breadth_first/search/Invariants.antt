use Rattle.std.proofs.Common.{◌≡◌, ℕ, ◌<◌, ◌-◌, ◌*◌, Some, slice_get}
use Rattle.least_walk.specs.declared.queue.Reached.{Reached}
use Rattle.least_walk.specs.Queues.{IsWalkSearch, step_count}
use Rattle.least_walk.proofs.breadth_first.search.Given as goal

-- the steps from the places before the head, which are less than `most` steps away, have been followed
abbrev pub invariant-loop-head : goal.invariant-loop-head
invariant-loop-head l = record {
  search : IsWalkSearch l.pairs l.ends l.queue l.rows (l.head * step_count l.pairs);
  near : (i : ℕ) (x : Reached) → i < l.head → slice_get l.queue i ≡ Some x → x.depth < l.most;
}

-- how many marked pairs may still come
abbrev pub decreases-loop-head : goal.decreases-loop-head
decreases-loop-head l = 512 - l.head
