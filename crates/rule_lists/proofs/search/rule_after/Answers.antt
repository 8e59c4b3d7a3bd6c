use Rattle.std.proofs.Common.{◌^◌, ◌<◌, ℕ, Some, sym, ap₂, subst}
use Rattle.rule_lists.specs.Calls.{IsAfter}
use Rattle.rule_lists.proofs.laws.Going.{IsTable-shape, first_of_same, past_rank}
use Rattle.rule_lists.proofs.search.rule_after.Goals as goal

pub returns : goal.returns
returns c =
    let a = c.args.asked.now in
    let r = a.shape.now in
    let same = ap₂ (λ (a b : ℕ). a ^ b) c.requires.shape.states c.requires.shape.width in
    first_of_same a.property r.states r.width a.fixed.now a.order.now c.rule_from.result _ (IsAfter r.states a.order.now (Some c.args.rule.now))
    (λ q listed. past_rank r.states r.width a.order.now c.entries_of-entries.result c.advance-next.new.entries c.advance-next.result c.size.result c.args.rule.now q c.requires.order c.size.ensures.size
    (λ v l. c.entries_of-entries.ensures.letters v (subst (λ n. v < n) (sym same) l)) (c.advance-next.ensures.past q.table (IsTable-shape listed.shape)))
    c.rule_from.ensures
