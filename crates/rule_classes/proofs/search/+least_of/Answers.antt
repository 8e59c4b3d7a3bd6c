use Rattle.std.proofs.Common.{◌≡◌, inl, inr, refl, sym, ◌∙◌, subst, arith}
use Rattle.rule_classes.proofs.laws.Completions.{IsLeastOver, IsLeastColouring-last, IsLeastColouring-over, IsLeastOver-more, IsNext-end, next_of, next_of-greatest, next_of-least, next_of-within}
use Rattle.rule_classes.proofs.search.+least_of.Goals.{then-low-high, else-low-high}
use Rattle.rule_classes.proofs.search.+least_of.Goals as goal

pub returns-then-high-low-le1-clause-least : goal.returns-then-high-low-le1-clause-least
returns-then-high-low-le1-clause-least t c = IsLeastColouring-last (omega arith) c.requires.high c.requires.colouring c.take_lesser.ensures.least

pub loop-colour-preserved : goal.loop-colour-preserved
loop-colour-preserved t c =
    let r = c.args.rule.now in
    elim c.if-low-high.branch [
      | then-low-high w ↦
          let new = w.exchanged-next.ensures in
          let next = IsNext-end c.requires.high (omega arith) (next_of-greatest r.states c.args.low c.args.high (w.if-low-high.true ∙ c.k-k.ensures.states)) (inl (omega arith, refl, refl)) new.mirrored new.exchanged new.others in
          rw w.best-is (record {
            best = w.least_of.ensures.best;
            least = IsLeastOver-more next c.loop-colour.auto.colour c.loop-colour-test.true c.loop-colour.invariant.least w.least_of.ensures.least;
          })
      | else-low-high w ↦
          let new = w.exchanged-next-else-low-high.ensures in
          let next = IsNext-end c.requires.high (omega arith) (next_of-least r.states c.args.low c.args.high (λ even. w.if-low-high.false (even ∙ sym c.k-k.ensures.states))) (inr (refl, refl, refl)) new.mirrored new.exchanged new.others in
          rw w.best-is (record {
            best = w.least_of-else-low-high.ensures.best;
            least = IsLeastOver-more next c.loop-colour.auto.colour c.loop-colour-test.true c.loop-colour.invariant.least w.least_of-else-low-high.ensures.least;
          })
    ]

pub returns-clause-least : goal.returns-clause-least
returns-clause-least t c =
    let r = c.args.rule.now in
    let next = next_of-within r.states c.args.low c.args.high (omega arith) in
    let last : c.loop-colour.colour ≡ c.args.high = omega arith in
    IsLeastColouring-over (next_of r.states c.args.low c.args.high) (omega (arith, next.1, c.requires.high)) next.0 next.1 c.requires.colouring
    (subst (λ n. IsLeastOver r c.args.colouring c.args.low c.args.high (next_of r.states c.args.low c.args.high) n c.args.best.now.colouring c.loop-colour.best.colouring) last c.loop-colour.invariant.least)
