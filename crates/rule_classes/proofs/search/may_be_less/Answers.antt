use Rattle.std.proofs.Common.{inr, arith}
use Rattle.word_image.proofs.Common.{node_count_pos}
use Rattle.rule_classes.proofs.search.may_be_less.Goals as goal

pub overflow_sub-nodes : goal.overflow_sub-nodes
overflow_sub-nodes c = omega (arith, node_count_pos c.k.ensures.rule)

pub compare_row-requires-clause-node : goal.compare_row-requires-clause-node
compare_row-requires-clause-node c = omega (arith, node_count_pos c.k.ensures.rule)

pub compare_row-requires-clause-known : goal.compare_row-requires-clause-known
compare_row-requires-clause-known c = inr (omega (arith, node_count_pos c.k.ensures.rule), omega arith)
