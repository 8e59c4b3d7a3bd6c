use Rattle.std.proofs.Common.{ℕ, ◌+◌, ◌<◌, ◌≤◌, List, ◌++◌, length, reverse}
use Rattle.search_laws.proofs.Common.{TreeSpells}
use Rattle.least_walk.specs.Queues.{places_of, SpellsBefore}
use Rattle.least_walk.proofs.walker.spell.Given as goal

-- the steps so far, in reverse, complete each word that is spelled on the way to the place
abbrev pub invariant-loop-place : goal.invariant-loop-place
invariant-loop-place l = record {
  within : l.place < length l.queue;
  few : length l.steps + l.place ≤ 512;
  completes : (w : List ℕ) → TreeSpells (places_of l.queue) l.place w → SpellsBefore l.queue l.fn.place l.initial.steps (w ++ reverse l.steps);
}

abbrev pub decreases-loop-place : goal.decreases-loop-place
decreases-loop-place l = l.place
