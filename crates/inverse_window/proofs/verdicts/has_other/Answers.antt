use Rattle.std.proofs.Common.{arith}
use Rattle.word_image.proofs.Common.{nat_tests}
use Rattle.inverse_window.proofs.BothWays.{GoOnBothWays-some}
use Rattle.inverse_window.proofs.verdicts.has_other.Goals as goal

pub overflow_shl-result : goal.overflow_shl-result
overflow_shl-result c = omega (arith, c.requires.node, c.requires.rule.shape.most_nodes)

pub returns : goal.returns
returns c =
    let exact = GoOnBothWays-some c.requires.rule c.args.u c.forward.result c.backward.result c.requires.node (omega arith) c.forward.ensures c.backward.ensures in
    (λ t. exact.0 (grind (arith, nat_tests)), λ other. let some = exact.1 other in grind (arith, nat_tests))
