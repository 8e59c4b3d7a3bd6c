use Rattle.std.proofs.Common.{ℕ, List}
use Rattle.cert_conditions.proofs.Common.{EachBelow, StepIsListed}
use Rattle.cert_check.specs.Rows.{AreMarked}
use Rattle.cert_check.proofs.pairs.first_letter_out.Given as goal

-- the steps on the second letters so far are listed
abbrev pub invariant-loop-b : goal.invariant-loop-b
invariant-loop-b l = (pairs : List ℕ) → AreMarked l.listed.rows pairs → EachBelow l.b (StepIsListed l.rule pairs l.pair l.a)
