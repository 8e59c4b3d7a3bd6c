use Rattle.std.proofs.Common.{◌≡◌, [], ◌∷◌, ◌++◌, length, refl, ap, ◌∙◌, arith}
use Rattle.word_image.proofs.Common.{slice_get_within}
use Rattle.search_laws.proofs.Common.{no_walk}
use Rattle.search_laws.proofs.LeastSteps.{no_steps_to}
use Rattle.least_walk.proofs.Walking.{length-walking-le, IsBackward-walking, IsLeastWalk-arrival, length-arrival, no_walk-edge, all_followed}
use Rattle.least_walk.proofs.walker.Walker.walk_within.Goals as goal

pub spell-requires-clause-most : goal.spell-requires-clause-most
spell-requires-clause-most c =
    let found = c.in-Some.ensures.found in
    let alone : c.push.new.self ≡ c.in-Some.arrival.step ∷ [] = c.push.ensures ∙ ap (λ s. s ++ c.in-Some.arrival.step ∷ []) c.clear.ensures in
    omega (arith, ap length alone, slice_get_within c.search.new.queue c.in-Some.arrival.place found.from found.stands, length-walking-le found.walking)

pub spell-requires-clause-backward : goal.spell-requires-clause-backward
spell-requires-clause-backward c = rw c.as_slice.ensures.items (IsBackward-walking c.in-Some.ensures.found.walking)

pub returns-in-Some : goal.returns-in-Some
returns-in-Some c =
    let found = c.in-Some.ensures.found in
    let steps = c.as_slice-in-Some.ensures.letters in
    let spelled = rw (c.as_slice.ensures.items, c.push.ensures, c.clear.ensures) at c.spell.ensures.spelled in
    record {
      least = rw steps (IsLeastWalk-arrival found refl spelled);
      within = omega (arith, ap length steps, length-arrival found c.in-Some.ensures.near spelled);
      most = omega (arith, ap length steps, c.spell.ensures.most);
      none = tt;
      all = tt;
    }

pub returns-in-None : goal.returns-in-None
returns-in-None c =
    let ended = c.in-None.ensures.none in
    record { least = tt; within = tt; most = tt; none = no_walk-edge ended (ended.walking.none c.args.to refl); all = λ large. no_walk 16 c.args.to ended.walking.rule.shape.most_states (no_steps_to ended.walking.filled (all_followed large ended) c.args.to (ended.walking.none c.args.to refl)) }
