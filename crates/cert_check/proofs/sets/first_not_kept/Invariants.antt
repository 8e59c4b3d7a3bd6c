use Rattle.std.proofs.Common.{ℕ, List}
use Rattle.cert_values.specs.declared.cert_version.CertVersion.{CertVersion}
use Rattle.word_image.proofs.Common.{full_set}
use Rattle.cert_conditions.proofs.Common.{EachBelow, StepIsKept}
use Rattle.cert_check.specs.Rows.{AreKept}
use Rattle.cert_check.proofs.sets.first_not_kept.Given as goal

-- the steps so far are as they should be
abbrev pub invariant-loop-letter : goal.invariant-loop-letter
invariant-loop-letter l = (version : CertVersion) (sets : List ℕ) → AreKept version (full_set l.rule) sets l.kept.rows → EachBelow l.letter (StepIsKept version l.rule sets l.set)
