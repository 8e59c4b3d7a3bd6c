use Rattle.word_image.proofs.laws.Edges.{AreEdgeRows-ends}
use Rattle.debruijn.proofs.graph.Graph.ends.Goals as goal

pub returns : goal.returns
returns c = let edges = c.edges.ensures in AreEdgeRows-ends edges.rule edges.edges c.args.label c.args.u _ _ c.requires.label c.requires.node c.from.ensures c.from-2.ensures
