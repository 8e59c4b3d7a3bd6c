use Rattle.std.proofs.Common.{◌+◌, ◌*◌}
use Rattle.word_image.proofs.laws.Edges.{HaveEdges}
use Rattle.word_image.proofs.edges.edge_rows.Given as goal

-- the edges of the first nodes are there
abbrev pub invariant-loop-node : goal.invariant-loop-node
invariant-loop-node l = HaveEdges l.fn.side l.rule (l.node * l.rule.states) l.ends

-- the edges of the first nodes are there, and of one node more those of its first letters
abbrev pub invariant-loop-letter : goal.invariant-loop-letter
invariant-loop-letter l = HaveEdges l.fn.side l.rule (l.node * l.rule.states + l.letter) l.ends
