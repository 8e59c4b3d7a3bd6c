use Rattle.std.proofs.Common.{refl, sym, ap, ◌∙◌, arith, below_more}
use Rattle.cert_conditions.proofs.Common.{EachBelow, claim}
use Rattle.cert_check.specs.SideWindows.{FallsBy}
use Rattle.cert_check.proofs.laws.Claims.{Falls-steps}
use Rattle.cert_check.proofs.claims.falls.Goals as goal

pub loop-a-preserved : goal.loop-a-preserved
loop-a-preserved c =
    let r = c.args.rule.now in
    below_more (λ a. EachBelow r.states (FallsBy c.args.side r c.args.claims.now c.args.pair c.in-Some.most a)) c.loop-a.a c.loop-a.invariant (c.falls_along.ensures.0 c.if-not-falls_along.false)

pub returns : goal.returns
returns c =
    let steps = Falls-steps c.args.side c.k-a-end.ensures.rule c.args.claims.now c.args.pair c.in-Some.most (ap (claim c.args.claims.now) (sym c.from.ensures) ∙ c.in-Some.is) c.requires.pair in
    ((λ _. steps.0 (λ a in_a. c.loop-a.invariant a (omega arith))), (λ _. refl))

pub returns-then-not-falls_along : goal.returns-then-not-falls_along
returns-then-not-falls_along c =
    let steps = Falls-steps c.args.side c.k-a-end.ensures.rule c.args.claims.now c.args.pair c.in-Some.most (ap (claim c.args.claims.now) (sym c.from.ensures) ∙ c.in-Some.is) c.requires.pair in
    ((λ no. absurd cc), (λ falls. sym c.if-not-falls_along.true ∙ c.falls_along.ensures.1 (steps.1 falls c.loop-a.a (omega arith))))
