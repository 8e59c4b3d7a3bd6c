use Rattle.std.proofs.Common.{sym, ◌∙◌}
use Rattle.word_image.proofs.Common.{false≢true}
use Rattle.rule_lists.proofs.laws.Going.{RulesOutStart-rejected, RulesOutStart-other}
use Rattle.rule_lists.proofs.laws.Filled.{of_shape, letters_of_shape}
use Rattle.rule_lists.proofs.search.found.Goals as goal

pub returns-then-not-has-clause-none : goal.returns-then-not-has-clause-none
returns-then-not-has-clause-none c nothing full =
    let r = c.args.asked.now.shape.now in
    let e = c.filled-rule.ensures in
    let shape = of_shape c.k-2.ensures.states c.m.ensures.width e.rule e.accepted in
    RulesOutStart-rejected c.args.asked.now.property r.states r.width c.args.asked.now.fixed.now c.args.asked.now.order.now c.args.entries.now c.args.n c.filled-rule.result c.requires.order full shape
    (letters_of_shape c.filled-rule.result.table c.args.entries.now c.k-2.ensures.states c.m.ensures.width e.table)
    (λ has. false≢true (sym c.if-not-has.true ∙ c.has.ensures.1 has))

pub returns-then-not-has_letters-clause-none : goal.returns-then-not-has_letters-clause-none
returns-then-not-has_letters-clause-none c nothing full =
    let r = c.args.asked.now.shape.now in
    RulesOutStart-other c.args.asked.now.property r.states r.width c.args.asked.now.fixed.now c.args.asked.now.order.now c.args.entries.now c.args.n c.k.result c.requires.order c.k.ensures.states full
    (λ has. false≢true (sym c.if-not-has_letters.true ∙ c.has_letters.ensures.1 has))
