use Rattle.std.proofs.Common.{◌-◌, ◌^◌, ap, ◌∙◌, arith}
use Rattle.std.proofs.lemmas.Nat.Bits.{ones_shr}
use Rattle.word_image.proofs.laws.Graphs.{node_count_pos}
use Rattle.word_image.proofs.local_rule.Rule.all_nodes.Goals as goal

pub overflow_shr-result : goal.overflow_shr-result
overflow_shr-result c = omega (arith, node_count_pos c.nodes.ensures.rule, c.nodes.ensures.nodes)

pub returns-clause-set : goal.returns-clause-set
returns-clause-set c =
    ones_shr 16 (16 - c.nodes.result) (omega arith) ∙ ap (λ j. 2 ^ j - 1) ((omega arith) ∙ c.nodes.ensures.nodes)
