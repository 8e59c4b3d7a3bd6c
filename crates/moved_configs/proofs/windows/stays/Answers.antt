use Rattle.word_image.proofs.Common.{bit_set_by_shift}
use Rattle.moved_configs.proofs.Bits.{shift-bit}
use Rattle.moved_configs.proofs.windows.stays.Goals as goal

pub returns-then-nodes-node-eq1 : goal.returns-then-nodes-node-eq1
returns-then-nodes-node-eq1 c =
    let bit = (bit_set_by_shift c.args.nodes c.args.node).0 c.if-nodes-node-eq1.true in
    (λ t. (bit, c.goes.ensures.0 t), λ s. c.goes.ensures.1 s.1)

pub returns-else-nodes-node-eq1 : goal.returns-else-nodes-node-eq1
returns-else-nodes-node-eq1 c =
    let bit = bit_set_by_shift c.args.nodes c.args.node in
    (λ t. absurd (c.if-nodes-node-eq1.false (bit.1 ((shift-bit c.args.nodes c.args.node).0 t))), λ s. absurd (c.if-nodes-node-eq1.false (bit.1 s.0)))
