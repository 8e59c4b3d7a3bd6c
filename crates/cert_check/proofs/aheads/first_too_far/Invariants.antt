use Rattle.cert_conditions.proofs.Common.{EachBelow, IsAheadPair}
use Rattle.word_image.proofs.Common.{IsFirstOf}
use Rattle.cert_check.proofs.aheads.first_too_far.Given as goal

-- less than n - 1 is claimed of each first pair so far
abbrev pub invariant-loop-pair : goal.invariant-loop-pair
invariant-loop-pair l = EachBelow l.pair (IsAheadPair (IsFirstOf l.side l.rule) l.claims l.n)
