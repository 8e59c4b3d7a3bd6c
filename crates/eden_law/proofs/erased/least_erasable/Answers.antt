use Rattle.std.proofs.Common.{refl}
use Rattle.word_image.proofs.Common.{IsLeastErasable}
use Rattle.garden_laws.proofs.GardenOfEden.{IsSurjective-none_erasable, none_erasable-surjective}
use Rattle.tail_laws.proofs.Common.{spelled_pair}
use Rattle.eden_law.proofs.LeastErasures.{IsLeastErasable-first, none_erasable-below, length-IsLeastErasable}
use Rattle.eden_law.proofs.erased.least_erasable.Goals as goal

pub returns-in-Some-clause-least : goal.returns-in-Some-clause-least
returns-in-Some-clause-least c =
    spelled_pair (IsLeastErasable c.args.rule.now) c.in-Some.steps c.as_slice.ensures.letters c.spelled.ensures.first c.spelled.ensures.second
    (IsLeastErasable-first c.keeps_limits.ensures (rw (← c.of-pairs.ensures) c.in-Some.ensures.first))

pub returns-in-Some-clause-surjective : goal.returns-in-Some-clause-surjective
returns-in-Some-clause-surjective c =
    (λ none. absurd cc, λ every. absurd (none_erasable-surjective c.keeps_limits.ensures every _ _ (returns-in-Some-clause-least c).erasable))

pub returns-in-Some-clause-most : goal.returns-in-Some-clause-most
returns-in-Some-clause-most c = length-IsLeastErasable c.keeps_limits.ensures (returns-in-Some-clause-least c)

pub returns-in-None-clause-least : goal.returns-in-None-clause-least
returns-in-None-clause-least c = none_erasable-below c.keeps_limits.ensures (rw (← c.of-pairs.ensures) c.in-None.ensures.first)

pub returns-in-None-clause-surjective : goal.returns-in-None-clause-surjective
returns-in-None-clause-surjective c = ((λ none. IsSurjective-none_erasable c.keeps_limits.ensures (returns-in-None-clause-least c)), (λ every. refl))

pub returns-then-is_surjective-clause-least : goal.returns-then-is_surjective-clause-least
returns-then-is_surjective-clause-least c =
    none_erasable-surjective c.keeps_limits.ensures (rw (c.graph.ensures, c.of-pairs.ensures) at (c.is_surjective.ensures.surjective.0 c.if-is_surjective.true))
