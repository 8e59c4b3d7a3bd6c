use Rattle.cert_conditions.proofs.Common.{EachBelow}
use Rattle.cert_check.specs.SideWindows.{FallsBy}
use Rattle.cert_check.proofs.claims.falls_along.Given as goal

-- less is claimed on the second letters so far
abbrev pub invariant-loop-b : goal.invariant-loop-b
invariant-loop-b l = EachBelow l.b (FallsBy l.side l.rule l.claims l.pair l.most l.a)
