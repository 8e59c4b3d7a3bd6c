use Rattle.std.proofs.Common.{◌^◌, ◌≤◌, IfSome, subst}
use Rattle.rule_lists.proofs.laws.Going.{to_come-less, IsFirst-filled}
use Rattle.rule_lists.proofs.search.rule_from.Goals as goal

pub loop-next-smaller : goal.loop-next-smaller
loop-next-smaller c =
    let r = c.args.asked.now.shape.now in
    let within = subst (λ o. IfSome o (λ n. n ≤ r.states ^ r.width)) c.in-Some.is c.loop-next.invariant.within in
    to_come-less r.states (r.states ^ r.width) c.args.asked.now.order.now c.loop-next.entries c.step-next.new.entries c.in-Some.n c.loop-next.next c.step-next.result c.in-Some.is c.requires.order c.loop-next.invariant.table c.step-next.ensures.table within c.step-next.ensures.within c.step-next.ensures.further

pub returns-in-Some-found : goal.returns-in-Some-found
returns-in-Some-found c =
    let r = c.args.asked.now.shape.now in
    IsFirst-filled c.args.asked.now.property r.states r.width c.args.asked.now.fixed.now c.args.asked.now.order.now c.loop-next.entries c.in-Some.n c.loop-next.next _ c.in-Some-found.rule c.requires.order c.in-Some.is c.in-Some-found.ensures.some c.loop-next.invariant.same
