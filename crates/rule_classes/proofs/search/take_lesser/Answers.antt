use Rattle.std.proofs.Common.{inl, inr, ◌≡◌, refl, sym, ap, subst, arith, rules}
use Rattle.std.specs.Cmp.Rules.{comparing}
use Rattle.rule_classes.specs.Colourings.{IsLeastColouring, recoloured_number}
use Rattle.rule_classes.proofs.laws.Completions.{Completes-itself, recoloured_number-completes}
use Rattle.rule_classes.proofs.search.take_lesser.Goals.{else-ne-via-then-ne+else-is_less, else-ne-via-else-ne}
use Rattle.rule_classes.proofs.search.take_lesser.Goals as goal

pub returns-then-is_less-clause-least : goal.returns-then-is_less-clause-least
returns-then-is_less-clause-least c = subst (IsLeastColouring c.args.rule.now c.args.colouring 0 0 c.args.best.now.colouring) (sym c.take.ensures.colouring) (record {
  colouring = c.requires.colouring;
  one = inr (Completes-itself c.requires.colouring, c.is_less.ensures.less c.if-is_less.true);
  least = λ d completes. omega (arith, recoloured_number-completes c.requires.rule c.requires.colouring completes);
})

pub returns-else-ne-clause-least : goal.returns-else-ne-clause-least
returns-else-ne-clause-least c = record {
  colouring = c.requires.best.colouring;
  one = inl refl;
  least = elim c.else-ne.branch [
    | else-ne-via-then-ne+else-is_less w ↦ λ d completes. omega (arith, w.is_less.ensures.no_less w.if-is_less.false, recoloured_number-completes c.requires.rule c.requires.colouring completes)
    | else-ne-via-else-ne w ↦
        let same : c.args.best.now.colouring ≡ c.args.colouring = search (comparing, rules) depth 9 in
        let number : recoloured_number c.args.rule.now c.args.best.now.colouring ≡ recoloured_number c.args.rule.now c.args.colouring = ap (recoloured_number c.args.rule.now) same in
        λ d completes. omega (arith, number, recoloured_number-completes c.requires.rule c.requires.colouring completes)
  ];
}
