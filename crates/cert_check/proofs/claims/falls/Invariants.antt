use Rattle.cert_conditions.proofs.Common.{EachBelow}
use Rattle.cert_check.specs.SideWindows.{FallsBy}
use Rattle.cert_check.proofs.claims.falls.Given as goal

-- less is claimed on the first letters so far, with each second one
abbrev pub invariant-loop-a : goal.invariant-loop-a
invariant-loop-a l = EachBelow l.a (λ a. EachBelow l.rule.states (FallsBy l.side l.rule l.claims l.pair l.most a))
