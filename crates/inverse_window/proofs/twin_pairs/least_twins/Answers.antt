use Rattle.std.proofs.Common.{refl}
use Rattle.word_image.proofs.Common.{IsLeastTwins}
use Rattle.tail_laws.proofs.Common.{no_twins, spelled_pair, IsLeastTwins-first, no_twins-none, length-IsLeastTwins}
use Rattle.tail_laws.proofs.Certainty.{IsInjective-no_twins}
use Rattle.inverse_window.proofs.twin_pairs.least_twins.Goals as goal

pub returns-in-Some-clause-least : goal.returns-in-Some-clause-least
returns-in-Some-clause-least c =
    spelled_pair (IsLeastTwins c.args.pairs.now) c.in-Some.steps c.as_slice.ensures.letters c.spelled.ensures.first c.spelled.ensures.second (IsLeastTwins-first c.first_turn.ensures.rule c.in-Some.ensures.turn)

pub returns-in-Some-clause-injective : goal.returns-in-Some-clause-injective
returns-in-Some-clause-injective c = (λ none. absurd cc, λ injective. absurd (no_twins (returns-in-Some-clause-least c).twins injective))

pub returns-in-Some-clause-most : goal.returns-in-Some-clause-most
returns-in-Some-clause-most c = length-IsLeastTwins c.first_turn.ensures.rule (returns-in-Some-clause-least c)

pub returns-in-None-clause-least : goal.returns-in-None-clause-least
returns-in-None-clause-least c = no_twins-none c.first_turn.ensures.rule c.in-None.ensures.turn

pub returns-in-None-clause-injective : goal.returns-in-None-clause-injective
returns-in-None-clause-injective c = (λ none. (IsInjective-no_twins c.first_turn.ensures.rule).1 (returns-in-None-clause-least c), λ injective. refl)
