use Rattle.std.proofs.Common.{◌≡◌, length, sym, ap, ◌∙◌}
use Rattle.pair_graph.specs.PairRows.{length-truths, same_roots}
use Rattle.pair_graph.proofs.PairSteps.{holds-row}
use Rattle.pair_graph.proofs.pair_set.PairSet.row.Goals as goal

pub returns : goal.returns
returns c n v long node small =
    let rows = c.self.inside.rows in
    let nodes : c.self.inside.nodes ≡ n = same_roots c.self.inside.nodes n (sym (length-truths c.self.inside.nodes rows) ∙ ap length c.self.view_is ∙ long) in
    holds-row n rows c.args.self.now c.args.u c.from.result v nodes c.self.view_is c.self.invariant c.from.ensures node
