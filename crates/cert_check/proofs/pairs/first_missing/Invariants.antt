use Rattle.cert_conditions.proofs.Common.{EachBelow, FirstIsListed}
use Rattle.cert_check.proofs.pairs.first_missing.Given as goal

-- the first pairs so far are listed
abbrev pub invariant-loop-pair : goal.invariant-loop-pair
invariant-loop-pair l = EachBelow l.pair (FirstIsListed l.rule l.pairs)
