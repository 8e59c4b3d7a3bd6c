use Rattle.std.proofs.Common.{◌≡◌, ◌/◌, ◌%◌, map, take}
use Rattle.least_walk.proofs.letter_pairs.spelled.Given as goal

-- the words spell the first steps
abbrev pub invariant-loop-step : goal.invariant-loop-step
invariant-loop-step l = record {
  first : l.x ≡ map (λ step. step / 16) (take l.step-index l.steps);
  second : l.y ≡ map (λ step. step % 16) (take l.step-index l.steps);
}
