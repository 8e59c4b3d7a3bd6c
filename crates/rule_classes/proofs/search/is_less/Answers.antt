use Rattle.std.proofs.Common.{◌≡◌, ◌*◌, ap, ◌∙◌, arith}
use Rattle.rule_classes.proofs.laws.Completions.{Completes-itself}
use Rattle.rule_classes.proofs.laws.Colourings.{recoloured_number-same}
use Rattle.rule_classes.proofs.search.is_less.Goals as goal

pub returns-clause-no_less : goal.returns-clause-no_less
returns-clause-no_less c is =
    let r = c.args.rule.now in
    let none : c.loop-node.node ≡ 0 = omega arith in
    let start : c.loop-node.node * r.states ≡ 0 = ap (λ n. n * r.states) none ∙ omega arith in
    omega (arith, recoloured_number-same r c.args.colouring.now c.args.best.now.colouring (λ u l. c.loop-node.invariant.same _ (Completes-itself c.requires.colouring) u (omega arith) l))
