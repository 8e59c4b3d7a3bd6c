use Rattle.cert_conditions.proofs.Common.{EachBelow, IsWindowPair}
use Rattle.cert_check.proofs.windows.first_not_told.Given as goal

-- the claims tell the nodes of each pair so far
abbrev pub invariant-loop-pair : goal.invariant-loop-pair
invariant-loop-pair l = EachBelow l.pair (IsWindowPair l.rule l.forward l.backward l.n l.c)
