use Rattle.pair_graph.proofs.PairSteps.{nodes_from_length, AreRows-kept, IsTrimmedSet-kept}
use Rattle.pair_graph.proofs.pair_set.PairSet.trim.Goals as goal

pub invariant_of-result : goal.invariant_of-result
invariant_of-result c =
    let kept = rw c.rule.ensures at c.trimmed.ensures.kept in
    AreRows-kept c.self.inside.nodes kept (nodes_from_length c.args.pairs.now c.self.inside.nodes c.self.inside.rows _ c.self.view_is c.requires) c.self.invariant

pub returns : goal.returns
returns c =
    let rows = c.self.inside.rows in
    let trimmed = rw c.rule.ensures at c.trimmed.ensures in
    let nodes = nodes_from_length c.args.pairs.now c.self.inside.nodes rows _ c.self.view_is c.requires in
    IsTrimmedSet-kept c.args.side trimmed.rule c.self.inside.nodes c.edges.result.now rows c.trimmed.result c.args.self.now nodes c.self.view_is c.edges.ensures trimmed.kept
