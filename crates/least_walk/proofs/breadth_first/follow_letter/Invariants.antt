use Rattle.std.proofs.Common.{◌≡◌, ◌+◌, ◌-◌, ◌*◌, ◌≤◌, slice_get}
use Rattle.least_walk.specs.Queues.{IsWalkSearch, IsOldBut, step_count}
use Rattle.least_walk.proofs.breadth_first.follow_letter.Given as goal

-- the second letters before b are done
abbrev pub invariant-loop-b : goal.invariant-loop-b
invariant-loop-b l = record {
  search : IsWalkSearch l.pairs l.ends l.queue l.rows (l.head.place * step_count l.pairs + (l.a * 16 + l.b));
  small : l.b ≤ 16;
  old : IsOldBut l.pairs l.queue l.rows l.head.place l.a l.letters;
  same : slice_get l.queue l.head.place ≡ slice_get l.initial.queue l.head.place;
}

-- how many second letters may still come
abbrev pub decreases-loop-b : goal.decreases-loop-b
decreases-loop-b l = 16 - l.b
