use Rattle.kept_sums.proofs.laws.Trivials.{IsSpannedUpToTrivial-kept}
use Rattle.kept_sums.specs.Stages.{ring_at}
use Rattle.kept_sums.proofs.theorems.rows_give_all_kept_sums.Goals as goal

pub returns-clause-kept : goal.returns-clause-kept
returns-clause-kept c = λ r range rows counts rings weight rule some are kept.
    IsSpannedUpToTrivial-kept rule some are.stage weight (λ i l noted. kept (ring_at counts rings i) ((are.stage.places i l).ring noted))

pub returns-clause-noted : goal.returns-clause-noted
returns-clause-noted c = λ r range rows counts rings weight rule some are keep. IsSpannedUpToTrivial-kept rule some are.stage weight keep
