use Rattle.tail_preimage.proofs.laws.Parts.{Meets-rounds}
use Rattle.tail_preimage.proofs.laws.Shapes.{IsFirst-le, Through-before, Through-behind, IsFirstShape-keys}
use Rattle.tail_preimage.proofs.shapes.first_shape.Goals as goal

pub least_sum-left-requires-clause-some : goal.least_sum-left-requires-clause-some
least_sum-left-requires-clause-some c =
    let h = c.requires.parts.1 in
    Meets-rounds c.sources-rears.result h.rule h.left ((Through-before c.args.graph.now c.args.parts.now _ c.open.ensures c.sources-rears.ensures).1 c.requires.some)

pub union_of_rows-fronts-requires-2 : goal.union_of_rows-fronts-requires-2
union_of_rows-fronts-requires-2 c u below = (c.requires.parts.1.middle.rows u below).within

pub least_sum-right-requires-clause-some : goal.least_sum-right-requires-clause-some
least_sum-right-requires-clause-some c =
    let h = c.requires.parts.1 in
    let held = (Through-before c.args.graph.now c.args.parts.now _ c.open.ensures c.sources-rears.ensures).0 c.least_sum-left.ensures.first.holds in
    Meets-rounds c.union_of_rows-fronts.result h.rule h.right ((Through-behind c.args.graph.now c.args.parts.now _ c.some_rounds.ensures c.union_of_rows-fronts.ensures).1 held)

pub least_first-first-requires-clause-some : goal.least_first-first-requires-clause-some
least_first-first-requires-clause-some c =
    let held = (Through-behind c.args.graph.now c.args.parts.now _ c.some_rounds.ensures c.union_of_rows-fronts.ensures).0 c.least_sum-right.ensures.first.holds in
    (Through-before c.args.graph.now c.args.parts.now _ c.some_rounds-2.ensures c.sources-rears-2.ensures).1 held

pub least_first-second-requires-clause-some : goal.least_first-second-requires-clause-some
least_first-second-requires-clause-some c =
    let held = (Through-before c.args.graph.now c.args.parts.now _ c.some_rounds-2.ensures c.sources-rears-2.ensures).0 c.least_first-first.ensures.first.holds in
    (Through-behind c.args.graph.now c.args.parts.now _ c.rounds.ensures c.union_of_rows-fronts-2.ensures).1 held

pub returns : goal.returns
returns c =
    let left = c.least_sum-left in
    let right = c.least_sum-right in
    let first = c.least_first-first in
    let second = c.least_first-second in
    IsFirstShape-keys c.requires.parts.1 left.result right.result first.result second.result (record {
      left_few = left.ensures.few;
      right_few = right.ensures.few;
      before_less = first.ensures.below;
      after_less = second.ensures.below;
      holds = (Through-behind c.args.graph.now c.args.parts.now _ c.rounds.ensures c.union_of_rows-fronts-2.ensures).0 second.ensures.first.holds;
      left_least = λ n through. IsFirst-le _ left.result n left.ensures.first ((Through-before c.args.graph.now c.args.parts.now _ c.open.ensures c.sources-rears.ensures).1 through);
      right_least = λ n through. IsFirst-le _ right.result n right.ensures.first ((Through-behind c.args.graph.now c.args.parts.now _ c.some_rounds.ensures c.union_of_rows-fronts.ensures).1 through);
      before_least = λ n through. IsFirst-le _ first.result n first.ensures.first ((Through-before c.args.graph.now c.args.parts.now _ c.some_rounds-2.ensures c.sources-rears-2.ensures).1 through);
      after_least = λ n through. IsFirst-le _ second.result n second.ensures.first ((Through-behind c.args.graph.now c.args.parts.now _ c.rounds.ensures c.union_of_rows-fronts-2.ensures).1 through);
    })
