use Rattle.std.proofs.Common.{below_more}
use Rattle.tail_preimage.specs.Relations.{Open, Meets}
use Rattle.word_image.proofs.Common.{HasBit}
use Rattle.tail_preimage.proofs.Meets.{IsSetOf-meets}
use Rattle.tail_preimage.proofs.periods.least_closed.Goals as goal

pub returns-then-open-set-eq0-clause-first : goal.returns-then-open-set-eq0-clause-first
returns-then-open-set-eq0-clause-first c = record {
  holds = λ meets. (IsSetOf-meets c.open.ensures c.args.set).1 meets c.if-open-set-eq0.true;
  none = λ i l none. none (c.loop-n.invariant i l);
}

pub loop-n-preserved : goal.loop-n-preserved
loop-n-preserved c =
    below_more (λ n. Meets c.args.graph.now (Open (HasBit c.args.periods.now.period) n) c.args.set) c.loop-n.n c.loop-n.invariant ((IsSetOf-meets c.open.ensures c.args.set).0 c.if-open-set-eq0.false)
