use Rattle.std.proofs.Common.{◌≡◌, ◌+◌, ◌*◌, slice_get}
use Rattle.least_walk.specs.Queues.{IsWalkSearch, step_count}
use Rattle.least_walk.proofs.breadth_first.follow_steps.Given as goal

-- the first letters are done
abbrev pub invariant-loop-a : goal.invariant-loop-a
invariant-loop-a l = record {
  search : IsWalkSearch l.pairs l.ends l.queue l.rows (l.head * step_count l.pairs + l.a * 16);
  same : slice_get l.queue l.head ≡ slice_get l.initial.queue l.head;
}
