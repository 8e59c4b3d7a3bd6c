use Rattle.rule_classes.proofs.laws.Classes.{IsLeastOfClass-unique, IsLeastOfClass-mirrored}
use Rattle.rule_classes.proofs.classes.one_least_of_class.Goals as goal

pub returns-clause-rule : goal.returns-clause-rule
returns-clause-rule c r g h a b rule = IsLeastOfClass-unique rule a b

pub returns-clause-mirrored : goal.returns-clause-mirrored
returns-clause-mirrored c r g h a b rule = IsLeastOfClass-mirrored rule a b
