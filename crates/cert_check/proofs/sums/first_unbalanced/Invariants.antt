use Rattle.std.proofs.Common.{slice_index}
use Rattle.word_image.proofs.Common.{word_of}
use Rattle.cert_conditions.proofs.Common.{EachBelow, Flows}
use Rattle.cert_check.proofs.sums.first_unbalanced.Given as goal

-- the flux balances at each window so far
abbrev pub invariant-loop-window : goal.invariant-loop-window
invariant-loop-window l = EachBelow l.window (λ v. Flows (slice_index l.weights) l.rule l.flux (word_of l.rule.states l.rule.width v))
