use Rattle.cert_conditions.proofs.laws.Soundness.{AreTrue-accepted}
use Rattle.cert_conditions.proofs.theorems.accepted_is_true.Goals as goal

pub returns : goal.returns
returns c bytes v = AreTrue-accepted
