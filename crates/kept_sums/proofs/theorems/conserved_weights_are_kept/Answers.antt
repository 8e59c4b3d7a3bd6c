use Rattle.kept_sums.proofs.laws.Flows.{IsKept-conserving}
use Rattle.kept_sums.proofs.theorems.conserved_weights_are_kept.Goals as goal

pub returns : goal.returns
returns c = λ weight r. IsKept-conserving weight r
