use Rattle.std.proofs.Common.{sym, ap, ◌∙◌, subst, slice_index, IsBitSet}
use Rattle.word_image.proofs.Common.{bit_set_by_shift, end_node}
use Rattle.word_image.specs.declared.side.Side.TheVariants.{Right}
use Rattle.moved_configs.proofs.Bits.{shift-bit}
use Rattle.moved_configs.proofs.rings.leads.Goals as goal

pub returns-then-nodes-end-eq1 : goal.returns-then-nodes-end-eq1
returns-then-nodes-end-eq1 c =
    let r = c.args.rule.now in
    let end = c.end_node-end.ensures.value ∙ ap (end_node Right r) c.window_with.ensures.value in
    let there = (bit_set_by_shift c.args.nodes c.end_node-end.result).0 c.if-nodes-end-eq1.true in
    let row = ap (slice_index c.args.rows.now) c.from.ensures in
    let bit = shift-bit (slice_index c.args.rows.now c.from.result) c.args.letter in
    (λ t. (subst (IsBitSet c.args.nodes) end there, subst (λ s. IsBitSet s c.args.letter) row (bit.0 t)), λ h. bit.1 (subst (λ s. IsBitSet s c.args.letter) (sym row) h.1))

pub returns-else-nodes-end-eq1 : goal.returns-else-nodes-end-eq1
returns-else-nodes-end-eq1 c =
    let r = c.args.rule.now in
    let end = c.end_node-end.ensures.value ∙ ap (end_node Right r) c.window_with.ensures.value in
    let bit = bit_set_by_shift c.args.nodes c.end_node-end.result in
    (λ t. absurd (c.if-nodes-end-eq1.false (bit.1 ((shift-bit c.args.nodes c.end_node-end.result).0 t))), λ h. absurd (c.if-nodes-end-eq1.false (bit.1 (subst (IsBitSet c.args.nodes) (sym end) h.0))))
