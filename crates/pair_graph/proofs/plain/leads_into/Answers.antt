use Rattle.std.proofs.Common.{sym, ◌∙◌, ap, arith, below_more}
use Rattle.word_image.proofs.Common.{false≢true, LocalRule}
use Rattle.pair_graph.specs.PairSets.{LeadsIntoBy}
use Rattle.pair_graph.proofs.plain.leads_into.Goals as goal

pub loop-a-preserved : goal.loop-a-preserved
loop-a-preserved c = below_more (λ a. ¬ LeadsIntoBy c.args.side c.args.pairs.now c.args.set.now c.args.p a) c.loop-a.a c.loop-a.invariant
    (λ into. false≢true (sym c.if-leads_into_by.false ∙ c.leads_into_by.ensures.1 into))

pub returns : goal.returns
returns c =
    let states = ap (λ (r : LocalRule). r.states) c.rule.ensures in
    (λ t. absurd cc, λ (a, letter, into). absurd (c.loop-a.invariant a (omega (arith, letter)) into))
