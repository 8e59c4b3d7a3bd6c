use Rattle.std.proofs.Common.{[], ◌∷◌, ◌++◌, ◌∙◌, arith, length-append}
use Rattle.word_image.proofs.Common.{LocalRule}
use Rattle.ca_questions.specs.Samples.{drawn_rule}
use Rattle.ca_answering.proofs.laws.Samples.{IsRule-drawn, sample-step, sample-end}
use Rattle.ca_answering.proofs.summaries.counts_in.Goals as goal

pub from_table-requires : goal.from_table-requires
from_table-requires c =
    rw (c.fill.ensures.letters, c.loop-i.auto.table, c.requires.long) (IsRule-drawn c.args.k c.args.m c.loop-i.generator c.requires.shape)

pub loop-i-preserved : goal.loop-i-preserved
loop-i-preserved c =
    let s = c.loop-i.generator in
    let sofar = c.loop-i.invariant in
    let long = c.loop-i.auto.table ∙ c.requires.long in
    let r : LocalRule = drawn_rule c.args.k c.args.m s in (
      sofar.0 ++ r ∷ [],
      c.add.ensures sofar.0 r sofar.1 (IsRule-drawn c.args.k c.args.m s c.requires.shape) (rw (c.fill.ensures.letters, long) at c.from_table.ensures),
      omega (arith, length-append sofar.0 (r ∷ []), sofar.2),
      sample-step c.args.k c.args.m s c.args.count c.loop-i._i c.fill.new.self sofar.0 c.loop-i-test.true (rw long at c.fill.ensures.state) sofar.3,
    )

pub returns : goal.returns
returns c =
    let sofar = c.loop-i.invariant in
    rw (sample-end c.args.k c.args.m c.loop-i.generator c.args.count c.loop-i._i sofar.0 c.loop-i-test.false sofar.3) at sofar.1
