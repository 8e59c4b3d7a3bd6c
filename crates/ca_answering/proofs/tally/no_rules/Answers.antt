use Rattle.std.proofs.Common.{refl}
use Rattle.ca_questions.specs.Counts.AreMany.{None}
use Rattle.ca_answering.proofs.tally.no_rules.Goals as goal

pub returns : goal.returns
returns c = record { rules_true = refl; surjective_true = None; injective_true = None; right_true = None; left_true = None; open_true = None; conserving_true = None }
