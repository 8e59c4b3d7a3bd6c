use Rattle.tail_preimage.proofs.laws.Shapes.{Through-before, Through-behind}
use Rattle.tail_preimage.proofs.gaps.first_gap.Goals as goal

pub returns-in_err-left : goal.returns-in_err-left
returns-in_err-left c = rw c.from_residual.ensures ((Through-before c.args.graph.now c.args.parts.now _ c.open.ensures c.sources-rears.ensures).0 c.in_err-left.ensures.first)

pub returns-in_err-right : goal.returns-in_err-right
returns-in_err-right c =
    absurd (c.in_ok-left.ensures.first.holds ((Through-before c.args.graph.now c.args.parts.now _ c.open.ensures c.sources-rears.ensures).1 ((Through-behind c.args.graph.now c.args.parts.now _ c.open-2.ensures c.union_of_rows-fronts.ensures).0 c.in_err-right.ensures.first)))

pub returns : goal.returns
returns c =
    let first = c.in_ok-left.ensures.first in
    let second = c.in_ok-right.ensures.first in
    record {
      before_few = c.in_ok-left.ensures.few;
      after_few = c.in_ok-right.ensures.few;
      closed = λ passes. second.holds ((Through-behind c.args.graph.now c.args.parts.now _ c.open-2.ensures c.union_of_rows-fronts.ensures).1 passes);
      before_least = λ i l none. first.none i l (λ meets. none ((Through-before c.args.graph.now c.args.parts.now _ c.open.ensures c.sources-rears.ensures).0 meets));
      after_least = λ j l none. second.none j l (λ meets. none ((Through-behind c.args.graph.now c.args.parts.now _ c.open-2.ensures c.union_of_rows-fronts.ensures).0 meets));
    }
