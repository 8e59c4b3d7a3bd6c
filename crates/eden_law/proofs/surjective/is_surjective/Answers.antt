use Rattle.std.proofs.Common.{◌≡◌, refl, arith}
use Rattle.word_image.proofs.Common.{IsRule, node_count, next-below}
use Rattle.garden_laws.proofs.Preinjective.{IsSurjective-injective, IsSurjective-right_closing, IsSurjective-left_closing}
use Rattle.eden_law.proofs.ReachedRows.{IsRowSearch-firsts, HasFirsts-added, IsSurjective-rows}
use Rattle.eden_law.proofs.surjective.is_surjective.Goals as goal

pub follow_all-requires : goal.follow_all-requires
follow_all-requires c =
    IsRowSearch-firsts c.nodes-node-end.ensures.rule (omega (arith, c.loop-node-test.true, c.nodes-node-end.ensures.nodes)) c.loop-node.invariant.search c.add_firsts.ensures

pub returns-then-not-follow_all-clause-injective : goal.returns-then-not-follow_all-clause-injective
returns-then-not-follow_all-clause-injective c injective = absurd (c.follow_all.ensures.meets c.if-not-follow_all.true (IsSurjective-injective c.nodes-node-end.ensures.rule injective))

pub returns-then-not-follow_all-clause-right : goal.returns-then-not-follow_all-clause-right
returns-then-not-follow_all-clause-right c closing = absurd (c.follow_all.ensures.meets c.if-not-follow_all.true (IsSurjective-right_closing c.nodes-node-end.ensures.rule closing))

pub returns-then-not-follow_all-clause-left : goal.returns-then-not-follow_all-clause-left
returns-then-not-follow_all-clause-left c closing = absurd (c.follow_all.ensures.meets c.if-not-follow_all.true (IsSurjective-left_closing c.nodes-node-end.ensures.rule closing))

pub loop-node-preserved : goal.loop-node-preserved
loop-node-preserved c =
    let rule : IsRule c.args.graph.now = c.nodes-node-end.ensures.rule in
    record {
      search = c.follow_all.ensures.search c.if-not-follow_all.false;
      all = c.follow_all.ensures.all c.if-not-follow_all.false;
      firsts = λ u a b l ha hb other e. c.follow_all.ensures.kept c.if-not-follow_all.false _ _ (next-below rule u a) (next-below rule u b)
          (HasFirsts-added rule c.loop-node.invariant.firsts c.add_firsts.ensures u a b l ha hb other e);
    }

pub returns-clause-surjective : goal.returns-clause-surjective
returns-clause-surjective c =
    let all : c.loop-node.node ≡ node_count c.args.graph.now =
    omega (arith, c.loop-node-test.false, c.loop-node.auto.node-end, c.nodes-node-end.ensures.nodes) in
    let here = c.loop-node.invariant in
    (λ yes. IsSurjective-rows c.nodes-node-end.ensures.rule here.search here.all (rw all at here.firsts), λ every. refl)
