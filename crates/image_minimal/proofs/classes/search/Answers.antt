use Rattle.image_minimal.proofs.Common.{◌<◌, ◌∙◌, slice_index, subst, arith, mul-le-mul_right, IsInserted}
use Rattle.image_minimal.proofs.laws.ClosedSteps.{IsClosedStep-unique, closed_step}
use Rattle.image_minimal.proofs.Searches.{IsSearch-first, IsSearchAt-start, IsSearchAt-insert}
use Rattle.image_minimal.proofs.ClassSearches.{length-classes-le, class-below, HasClasses-closed}
use Rattle.image_minimal.proofs.classes.search.Goals as goal

pub loop-place-init : goal.loop-place-init
loop-place-init c = grind (arith, IsSearch-first)

pub steps-steps-requires : goal.steps-steps-requires
steps-steps-requires c = omega (arith, class-below c.loop-place.invariant.search c.loop-place.place (omega (arith, c.len.ensures.len)), c.at-set.ensures)

pub loop-letter-init : goal.loop-letter-init
loop-letter-init c = record { search = IsSearchAt-start c.loop-place.invariant.search (omega (arith, c.len.ensures.len)) c.at-set.ensures; limit = c.loop-place.invariant.limit }

pub loop-letter-preserved : goal.loop-letter-preserved
loop-letter-preserved c =
    let letter : c.loop-letter.letter < c.args.subsets.now.states = omega arith in
    let step = closed_step c.at-set.result c.loop-letter.letter c.requires (c.steps-steps.ensures c.loop-letter.letter letter) in
    record {
      search = IsSearchAt-insert c.loop-letter.invariant.search letter step (λ t other. IsClosedStep-unique step other)
          (subst (λ i. IsInserted c.loop-letter.classes.sets c.insert-in-loop-letter.new.self.sets (slice_index c.args.closures.now i)) c.from.ensures c.insert-in-loop-letter.ensures.sets);
      limit = c.insert-in-loop-letter.ensures.limit ∙ c.loop-letter.invariant.limit;
    }

pub loop-place-smaller : goal.loop-place-smaller
loop-place-smaller c = omega (arith, length-classes-le c.loop-place.invariant.search, c.len.ensures.len)

pub returns-clause-classes : goal.returns-clause-classes
returns-clause-classes c = HasClasses-closed c.full.ensures.rule c.requires c.loop-place.invariant.search (mul-le-mul_right c.args.subsets.now.states (omega (arith, c.len.ensures.len)))
