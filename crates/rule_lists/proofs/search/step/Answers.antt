use Rattle.std.proofs.Common.{◌≡◌, ◌+◌, set, Some, slice_index, sym, ap, ◌∙◌, subst, arith}
use Rattle.rule_lists.specs.Listed.{IsOn}
use Rattle.word_image.proofs.Common.{window_count-le}
use Rattle.rule_lists.proofs.laws.Going.{IsOn-letter, IsOn-next}
use Rattle.rule_lists.proofs.search.step.Goals as goal

pub returns-then-n-size : goal.returns-then-n-size
returns-then-n-size c =
    let e = c.advance.ensures in
    IsOn-next c.args.n c.requires.order (omega (arith, c.size.ensures.rule.shape.least_states)) c.requires.within c.requires.table (c.requires.full (omega (arith, c.size.ensures.size))) e.table e.within e.next e.past

pub returns-then-rules_out_start : goal.returns-then-rules_out_start
returns-then-rules_out_start c =
    let e = c.advance-then-rules_out_start.ensures in
    IsOn-next c.args.n c.requires.order (omega (arith, c.size.ensures.rule.shape.least_states)) c.requires.within c.requires.table (c.rules_out_start.ensures c.if-rules_out_start.true) e.table e.within e.next e.past

pub returns : goal.returns
returns c =
    let r = c.args.asked.now.shape.now in
    let rule = c.size.ensures.rule in
    let at : c.from-2.result ≡ slice_index c.args.asked.now.order.now c.args.n = c.from-2.ensures ∙ ap (slice_index c.args.asked.now.order.now) c.from.ensures in
    subst (λ w. IsOn c.args.asked.now.property r.states r.width c.args.asked.now.fixed.now c.args.asked.now.order.now c.args.entries.now c.args.n (set c.args.entries.now w 0) (Some (c.args.n + 1))) (sym at)
    (IsOn-letter c.args.n c.requires.order c.requires.table (omega (arith, rule.shape.least_states)) (omega (arith, c.requires.within, c.size.ensures.size)) (omega (arith, window_count-le r.states r.width r.offset rule.shape, c.told-entries)))
