use Rattle.std.proofs.Common.{slice_index, ap, ◌∙◌, arith}
use Rattle.word_image.proofs.Common.{end_node}
use Rattle.pair_graph.proofs.PairLanes.{AreLanes-next, mask-below, GoesOn-mask}
use Rattle.pair_graph.proofs.pair_set.going_on.Goals as goal

pub loop-a-preserved : goal.loop-a-preserved
loop-a-preserved c =
    let r = c.args.rule.now in
    rw (c.among-hits.ensures.lanes)
    (AreLanes-next c.loop-a.invariant c.from-in-loop-a.result c.from.result
    (c.from-in-loop-a.ensures ∙ c.at.ensures.entry ∙ ap (slice_index r.table) c.window_with-window.ensures.value)
    (c.from.ensures ∙ c.end_node.ensures.value ∙ ap (end_node c.args.side r) c.window_with-window.ensures.value)
    c.among-hits.ensures.wide (omega arith))

pub overflow_cast-result : goal.overflow_cast-result
overflow_cast-result c = record { fits = mask-below c.loop-a.hits c.loop-a.invariant.long }

pub returns : goal.returns
returns c = GoesOn-mask c.loop-a.invariant (omega (arith, c.loop-a.auto.a-end, c.loop-a-test.false, c.k-a-end.ensures.states))
