use Rattle.std.proofs.Common.{sym, subst, arith}
use Rattle.rule_classes.specs.Classes.{IsLeastOfClass}
use Rattle.rule_classes.specs.Colourings.{IsLeastColouring}
use Rattle.rule_classes.proofs.laws.Classes.{IsLeastOfClass-found, HaveOneVerdict-class}
use Rattle.rule_classes.proofs.classes.class_of.Goals as goal

pub least_of-requires-2-clause-colouring : goal.least_of-requires-2-clause-colouring
least_of-requires-2-clause-colouring c = c.unchanged.ensures.colouring c.args.rule.now.states (omega (arith, c.k-k.ensures.states))

pub returns-clause-least : goal.returns-clause-least
returns-clause-least c =
    let r = c.args.rule.now in
    let own = c.own-best.result.colouring in
    let first = subst (λ k. IsLeastColouring r own 0 k own c.least_of.new.best.colouring) c.k-k.ensures.states c.least_of.ensures.least in
    let second = subst (λ k. IsLeastColouring r c.unchanged.result 0 k c.least_of.new.best.colouring c.least_of-2.new.best.colouring) c.k-k.ensures.states c.least_of-2.ensures.least in
    subst (IsLeastOfClass r c.least_of-2.new.best.colouring.mirrored) (sym c.rule.ensures)
    (IsLeastOfClass-found c.k-k.ensures.rule c.own-best.ensures.straight c.unchanged.ensures.mirrored first second)

pub returns-clause-verdicts : goal.returns-clause-verdicts
returns-clause-verdicts c = HaveOneVerdict-class c.k-k.ensures.rule _ (returns-clause-least c).member
