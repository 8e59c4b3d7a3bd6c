use Rattle.std.proofs.Common.{◌-◌, refl, arith, below_more}
use Rattle.tail_preimage.specs.Relations.{Rounds, Meets}
use Rattle.word_image.proofs.Common.{HasBit}
use Rattle.tail_preimage.proofs.laws.Steps.{exact_rounds}
use Rattle.tail_preimage.proofs.Meets.{IsSetOf-meets}
use Rattle.tail_preimage.proofs.periods.least_first.Goals as goal

pub returns-then-rounds-set-ne0-clause-first : goal.returns-then-rounds-set-ne0-clause-first
returns-then-rounds-set-ne0-clause-first c = record {
  holds = (IsSetOf-meets c.rounds.ensures c.args.set).0 c.if-rounds-set-ne0.true;
  none = c.loop-n.invariant;
}

pub loop-n-preserved : goal.loop-n-preserved
loop-n-preserved c =
    below_more (λ n. ¬ Meets c.args.graph.now (Rounds (HasBit c.args.periods.now.period) n (c.args.sum - n)) c.args.set) c.loop-n.n c.loop-n.invariant
    (λ meets. (IsSetOf-meets c.rounds.ensures c.args.set).1 meets c.if-rounds-set-ne0.false)

pub unreachable-requires : goal.unreachable-requires
unreachable-requires c =
    let (u, node, (n, on, both, some, rounds), bit) = c.requires.some in
    c.loop-n.invariant n (omega (arith, both, some)) (u, node, exact_rounds (HasBit c.args.periods.now.period) n n on c.args.sum u refl both rounds, bit)
