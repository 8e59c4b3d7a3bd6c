use Rattle.tail_laws.proofs.Certainty.{IsInjective-no_twins}
use Rattle.tail_laws.proofs.injective_has_no_twins.Goals as goal

pub returns : goal.returns
returns c r rule = IsInjective-no_twins rule
