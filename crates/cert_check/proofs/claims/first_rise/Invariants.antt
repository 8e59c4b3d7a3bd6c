use Rattle.cert_conditions.proofs.Common.{EachBelow, Falls}
use Rattle.cert_check.proofs.claims.first_rise.Given as goal

-- the claims of the pairs so far fall
abbrev pub invariant-loop-pair : goal.invariant-loop-pair
invariant-loop-pair l = EachBelow l.pair (Falls l.side l.rule l.claims)
