use Rattle.std.proofs.Common.{arith}
use Rattle.moved_configs.proofs.Firsts.{IsLeastMovedRing-first, MovesNone-reads, ReadsNoShorter-more}
use Rattle.moved_configs.proofs.rings.least_moved_ring.Goals as goal

pub returns-in-Some-clause-least : goal.returns-in-Some-clause-least
returns-in-Some-clause-least c =
    IsLeastMovedRing-first c.args.rule.now c.args.place c.core-nodes.result c.window_rows-rows.result c.loop-count.count c.in-Some.ring c.window_rows-rows.ensures.rule c.requires c.core-nodes.ensures c.window_rows-rows.ensures.rows
    (omega (arith, c.loop-count.auto.count)) c.loop-count.invariant c.in-Some.ensures.first

pub loop-count-preserved : goal.loop-count-preserved
loop-count-preserved c = ReadsNoShorter-more c.args.rule.now c.window_rows-rows.result c.loop-count.count c.loop-count.invariant c.in_default.ensures.none

pub returns-clause-none : goal.returns-clause-none
returns-clause-none c =
    MovesNone-reads c.args.rule.now c.args.place c.core-nodes.result c.window_rows-rows.result c.loop-count.count c.window_rows-rows.ensures.rule c.requires c.core-nodes.ensures c.window_rows-rows.ensures.rows
    (omega (arith, c.loop-count-test.false, c.nodes-count-end.ensures.nodes)) c.loop-count.invariant
