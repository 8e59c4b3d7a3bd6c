use Rattle.std.proofs.Common.{ℕ, ◌<◌, slice_index, arith}
use Rattle.word_image.proofs.Common.{LocalRule, node_count}
use Rattle.eden_law.specs.ReachedRows.{LeadsBeside, AreAdded}
use Rattle.eden_law.proofs.ReachedRows.{IsRowSearch-steps, HasBit-added, not_surjective-beside}
use Rattle.eden_law.proofs.surjective.follow_all.Goals as goal

pub returns-then-not-add_steps-clause-meets : goal.returns-then-not-add_steps-clause-meets
returns-then-not-add_steps-clause-meets c wrong =
    let r : LocalRule = c.args.graph.now in
    let node : ℕ = c.in-Some.node in
    let inside : node < node_count r = omega (arith, c.in-Some.ensures.0, c.nodes.ensures.nodes) in
    not_surjective-beside c.nodes.ensures.rule inside c.loop-node.invariant.search (rw c.from.ensures at (c.add_steps.ensures.meets c.if-not-add_steps.true))

pub loop-node-preserved : goal.loop-node-preserved
loop-node-preserved c =
    let r : LocalRule = c.args.graph.now in
    let node : ℕ = c.in-Some.node in
    let found = c.loop-node.found in
    let new = c.add_steps.new.found in
    let inside : node < node_count r = omega (arith, c.in-Some.ensures.0, c.nodes.ensures.nodes) in
    let added : AreAdded r node (LeadsBeside r node (slice_index found node)) r.states found new =
    rw c.from.ensures at (c.add_steps.ensures.added c.if-not-add_steps.false) in
    record {
      search = rw (c.from-in-Some.ensures, c.from.ensures)
          (IsRowSearch-steps c.nodes.ensures.rule inside c.loop-node.invariant.search added (rw c.from.ensures at (c.add_steps.ensures.apart c.if-not-add_steps.false)));
      kept = λ u v hu hv some. HasBit-added added u v hu hv (c.loop-node.invariant.kept u v hu hv some);
    }
