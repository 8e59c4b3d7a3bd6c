use Rattle.std.proofs.Common.{arith, below_more}
use Rattle.tail_preimage.specs.Relations.{SomeRounds, Meets}
use Rattle.word_image.proofs.Common.{HasBit}
use Rattle.tail_preimage.proofs.Meets.{IsSetOf-meets}
use Rattle.tail_preimage.proofs.periods.least_sum.Goals as goal

pub returns-then-some_rounds-set-ne0-clause-first : goal.returns-then-some_rounds-set-ne0-clause-first
returns-then-some_rounds-set-ne0-clause-first c = record {
  holds = (IsSetOf-meets c.some_rounds.ensures c.args.set).0 c.if-some_rounds-set-ne0.true;
  none = c.loop-sum.invariant;
}

pub loop-sum-preserved : goal.loop-sum-preserved
loop-sum-preserved c =
    below_more (λ sum. ¬ Meets c.args.graph.now (SomeRounds (HasBit c.args.periods.now.period) sum) c.args.set) c.loop-sum.sum c.loop-sum.invariant
    (λ meets. (IsSetOf-meets c.some_rounds.ensures c.args.set).1 meets c.if-some_rounds-set-ne0.false)

pub unreachable-requires : goal.unreachable-requires
unreachable-requires c = let (i, l, meets) = c.requires.some in c.loop-sum.invariant i (omega (arith, l)) meets
