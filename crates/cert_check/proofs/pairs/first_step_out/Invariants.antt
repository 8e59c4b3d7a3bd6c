use Rattle.std.proofs.Common.{ℕ, List}
use Rattle.cert_conditions.proofs.Common.{EachBelow, StepIsListed}
use Rattle.cert_check.specs.Rows.{AreMarked}
use Rattle.cert_check.proofs.pairs.first_step_out.Given as goal

-- the steps on the first letters so far are listed
abbrev pub invariant-loop-a : goal.invariant-loop-a
invariant-loop-a l = (pairs : List ℕ) → AreMarked l.listed.rows pairs → EachBelow l.a (λ a. EachBelow l.rule.states (StepIsListed l.rule pairs l.pair a))
