use Rattle.std.proofs.Common.{◌+◌, slice_index, refl, ap, ◌∙◌, arith}
use Rattle.rule_lists.proofs.Flows.{RulesOut-level}
use Rattle.rule_lists.proofs.sums.has_no_letter.Goals as goal

pub returns : goal.returns
returns c told =
    let levels = c.args.forest.now.levels in
    RulesOut-level c.args.shape.now c.args.letters.now c.args.forest.now.trees levels c.args.window c.from-first.result c.from-last.result c.end_letter.result
    (slice_index levels c.from-last.result) (slice_index levels c.from-first.result + c.from.result)
    c.end_node.ensures.rule c.requires.known c.requires.window (c.from-first.ensures ∙ c.end_node.ensures.value) (c.from-last.ensures ∙ c.end_node-2.ensures.value) c.end_letter.ensures.value
    (omega arith) refl (ap (λ x. slice_index levels c.from-first.result + x) c.from.ensures)
    (rw (c.k.ensures.states, c.from-2.ensures) at (c.is_no_letter.ensures told))
