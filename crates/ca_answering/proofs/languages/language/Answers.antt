use Rattle.ca_questions.proofs.Common.{IsFinding, automaton_of}
use Rattle.ca_answering.proofs.laws.OneClass.{IsLeastAutomaton-surjective}
use Rattle.ca_answering.proofs.languages.language.Goals as goal

pub returns-then-is_surjective : goal.returns-then-is_surjective
returns-then-is_surjective c =
    let every = rw c.of.ensures at (c.is_surjective.ensures.surjective.0 c.if-is_surjective.true) in
    IsFinding.Language c.args.rule.now _ (rw (c.one_class.ensures, c.k.ensures.states) (IsLeastAutomaton-surjective every))

pub returns : goal.returns
returns c = IsFinding.Language c.args.rule.now (automaton_of c.automaton.result) (rw c.set_rule.ensures at c.automaton.ensures)
