use Rattle.std.proofs.Common.{sym, ◌∙◌, arith, below_more}
use Rattle.cert_check.specs.SideWindows.{FallsBy}
use Rattle.cert_check.proofs.claims.falls_along.Goals as goal

pub loop-b-preserved : goal.loop-b-preserved
loop-b-preserved c =
    below_more (FallsBy c.args.side c.args.rule.now c.args.claims.now c.args.pair c.args.most c.args.a) c.loop-b.b c.loop-b.invariant (c.falls_by.ensures.0 c.if-not-falls_by.false)

pub returns-then-not-falls_by : goal.returns-then-not-falls_by
returns-then-not-falls_by c = ((λ no. absurd cc), (λ all. sym c.if-not-falls_by.true ∙ c.falls_by.ensures.1 (all c.loop-b.b (omega arith))))
