use Rattle.rule_algebra.proofs.laws.Recolouring.{DifferentBelow}
use Rattle.rule_algebra.proofs.recolouring.is_recolouring.Given as goal

-- the colours so far are different letters
abbrev pub invariant-loop-place : goal.invariant-loop-place
invariant-loop-place l = DifferentBelow l.k l.colours l.place
