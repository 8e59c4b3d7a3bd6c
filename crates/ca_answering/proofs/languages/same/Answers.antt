use Rattle.std.proofs.Common.{None, Some}
use Rattle.ca_questions.proofs.Common.{IsFinding, IsCauseFor}
use Rattle.ca_answering.proofs.languages.same.Goals as goal

pub returns-then-k : goal.returns-then-k
returns-then-k c = IsCauseFor.States c.args.first.now c.args.second.now (λ alike. c.if-k.true (cc))

pub returns-in-Some : goal.returns-in-Some
returns-in-Some c = rw c.of.ensures (IsFinding.Same c.args.first.now c.args.second.now (Some c.in-Some.word.now) (cc) c.in-Some.ensures.word)

pub returns-in-None : goal.returns-in-None
returns-in-None c = IsFinding.Same c.args.first.now c.args.second.now None (cc) c.in-None.ensures.word
