use Rattle.image_minimal.proofs.laws.ClassLists.{IsLeastAutomaton-unique}
use Rattle.image_minimal.proofs.classes.one_least_automaton.Goals as goal

pub returns : goal.returns
returns c r a b rule = IsLeastAutomaton-unique rule
