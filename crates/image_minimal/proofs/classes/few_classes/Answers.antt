use Rattle.image_minimal.proofs.laws.ClassLists.{IsLeastAutomaton-few}
use Rattle.image_minimal.proofs.classes.few_classes.Goals as goal

pub returns : goal.returns
returns c r a rule = IsLeastAutomaton-few rule
