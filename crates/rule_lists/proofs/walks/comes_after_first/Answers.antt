use Rattle.std.proofs.Common.{◌≡◌, not, sym, ap, ◌∙◌, arith}
use Rattle.word_image.proofs.Common.{false≢true, first_of, second_of}
use Rattle.rule_lists.proofs.FixedCycles.{walk-from, ComesAfterFirst-step}
use Rattle.rule_lists.proofs.walks.comes_after_first.Goals as goal

pub loop-preserved : goal.loop-preserved
loop-preserved c = grind (arith, walk-from)

pub returns-then-has_one_node : goal.returns-then-has_one_node
returns-then-has_one_node c told =
    let different = λ (e : first_of c.args.shape.now c.loop.at ≡ second_of c.args.shape.now c.loop.at). false≢true (sym (ap not (c.has_one_node-then-has_one_node.ensures.1 e)) ∙ told) in
    ComesAfterFirst-step c.args.side c.args.shape.now c.args.letters.now c.from-from.result c.loop.at c.args.pair c.pairs-end.ensures.rule
    (c.has_one_node.ensures.0 c.if-has_one_node.true) different (c.leads_on.ensures.leads c.if-not-leads_on.false) c.loop.invariant.walk
